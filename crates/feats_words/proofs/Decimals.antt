-- Decimal numbers that are too large.
use Rattle.std.proofs.Common.{◌≡◌, ℕ, ◌<◌, ◌^◌, Bool, true, false, ◌&&◌, [], ◌∷◌, length, Result, Err, arith, refl, subst}
use Rattle.std.proofs.lemmas.Bool.{ltb-true}
use Rattle.std.proofs.lemmas.Str.Parse.{IsNumeralModel, numerals_by_value, parse_digits, tells_all_ascii_digits}
use Rattle.std.specs.Prelude.{nat_lt}
use Rattle.std.specs.Result.{OkIff}
use Rattle.std.specs.Str.{all_ascii_digits}
use Rattle.std.specs.Str.Parse.{ParsesUnsigned, digits_value}
use Rattle.clap.specs.Words.{Text}
use Rattle.feats_words.specs.Depths.{is_decimal, number_of}
use Rattle.feats_words.specs.Refusals.{bad_depth}

own : IsNumeralModel (λ ds. all_ascii_digits ds ≡ true) (digits_value 10)
own = numerals_by_value _ tells_all_ascii_digits

second_of : (a b : Bool) → (a && b) ≡ true → b ≡ true
second_of true b h = h
second_of false b h = cc

has_digits : (word : Text) → is_decimal word ≡ true → all_ascii_digits word ≡ true
has_digits [] h = refl
has_digits (c ∷ cs) h = second_of _ (all_ascii_digits (c ∷ cs)) h

is_long : (word : Text) → is_decimal word ≡ true → 0 < length word
is_long [] h = cc
is_long (c ∷ cs) h = omega arith

pub too_large : {E : Type 0} (word : Text) (r : Result ℕ E) (e : E) → is_decimal word ≡ true → ParsesUnsigned 64 10 word r → r ≡ Err e → number_of word ≡ Err (bad_depth word)
too_large word r e decimal parses is = by_size (nat_lt (digits_value 10 word) (2 ^ 64)) refl (subst (λ z. OkIff z ((0 < length word) × (digits_value 10 word < 2 ^ 64)) (digits_value 10 word)) is (parse_digits own 64 word r parses (has_digits word decimal)))
  where
    by_size : (b : Bool) → nat_lt (digits_value 10 word) (2 ^ 64) ≡ b → ((0 < length word) × (digits_value 10 word < 2 ^ 64) → ⊥) → number_of word ≡ Err (bad_depth word)
    by_size true fits excess = absurd (excess (is_long word decimal, ltb-true (digits_value 10 word) (2 ^ 64) fits))
    by_size false fits excess = rw (decimal, fits) refl
