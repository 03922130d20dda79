-- Words between white space.
use Rattle.std.proofs.Common.{◌≡◌, ◌∙◌, ap, sym, refl, arith, ℕ, ◌≤◌, true, false, [], ◌∷◌, ◌++◌, get_or, append-nil, flat_map, ⊎_elim, Some, None, Bor, tests, rules}
use Rattle.std.proofs.lemmas.Bool.{cases_lt}
use Rattle.std.proofs.lemmas.List.Elements.{All-from_get_or, All-head, All-tail}
use Rattle.std.proofs.lemmas.List.Splits.{slice_split-cons_yes, slice_split_at, slice_split_none}
use Rattle.std.proofs.lemmas.Str.{NoCharPasses-byte}
use Rattle.std.specs.Char.{is_ascii_whitespace}
use Rattle.std.specs.List.{All, AllPass}
use Rattle.std.specs.Str.{NoCharPasses}
use Rattle.std.specs.Str.Iter.{CutsAsciiWord, IsAsciiSeparator}
use Rattle.clap.specs.Words.{Text}
use Rattle.feats_words.specs.FeatureWords.{between_commas, words_in}

above : (b : ℕ) → 128 ≤ b → is_ascii_whitespace b ≡ false
above b h = search (tests, rules, h)

-- no byte of a word is white space
bytes_of_word : (x : Text) → NoCharPasses is_ascii_whitespace x → All (λ b. is_ascii_whitespace b ≡ false) x
bytes_of_word x h = All-from_get_or (λ b. is_ascii_whitespace b ≡ false) x 0 (λ i within. ⊎_elim
    (λ low. NoCharPasses-byte is_ascii_whitespace x i h within low)
    (λ high. above (get_or x i 0) high)
    (cases_lt (get_or x i 0) 128))

-- white space in front is passed over
after_gap : (gap rest : Text) → AllPass is_ascii_whitespace gap → words_in (gap ++ rest) ≡ words_in rest
after_gap [] rest h = refl
after_gap (b ∷ gap) rest h =
    ap (λ parts. flat_map between_commas parts) (slice_split-cons_yes is_ascii_whitespace b (gap ++ rest) (All-head (λ x. is_ascii_whitespace x ≡ true) b gap h))
    ∙ after_gap gap rest (All-tail (λ x. is_ascii_whitespace x ≡ true) b gap h)

after_word : (x sep rest : Text) → NoCharPasses is_ascii_whitespace x → IsAsciiSeparator sep rest → words_in (x ++ (sep ++ rest)) ≡ between_commas x ++ words_in rest
after_word x [] [] h s = ap words_in (append-nil x) ∙ ap (λ parts. flat_map between_commas parts) (slice_split_none is_ascii_whitespace x (bytes_of_word x h))
after_word x [] (b ∷ rest) h s = absurd (omega (arith, s.2 refl))
after_word x (b ∷ []) rest h s =
    ap (λ parts. flat_map between_commas parts) (slice_split_at is_ascii_whitespace x b rest (bytes_of_word x h) (All-head (λ y. is_ascii_whitespace y ≡ true) b [] s.0))
after_word x (b ∷ c ∷ sep) rest h s = absurd (omega (arith, s.1))

-- the words of a text are those of its first part, and then those of the rest
pub word_cut : (bs rest : Text) (x : Bor Text) → CutsAsciiWord bs (Some x) rest (λ gap y sep. gap ++ (y ++ (sep ++ rest))) → words_in bs ≡ between_commas x.now ++ words_in rest
word_cut bs rest x h =
    let cut = h.3 in
    ap words_in cut.2 ∙ after_gap cut.0 (x.now ++ (cut.1 ++ rest)) cut.3 ∙ after_word x.now cut.1 rest h.1 cut.4

-- white space has no words
pub no_word : (bs rest : Text) → CutsAsciiWord bs None rest (λ gap y sep. gap ++ (y ++ (sep ++ rest))) → words_in bs ≡ []
no_word bs rest h = ap words_in (sym (append-nil bs)) ∙ after_gap bs [] h.0
