-- Numbers that are read one by one.
use Rattle.std.proofs.Common.{◌≡◌, ℕ, ◌<◌, ◌≤◌, List, [], ◌∷◌, ◌++◌, length, take, drop, Option, Some, None, arith, refl, ap, sym, ◌∙◌}
use Rattle.std.specs.Int.{w64, from_le_bytes}
use Rattle.std.specs.Option.{option_map}
use Rattle.std.proofs.lemmas.List.{append_assoc}
use Rattle.feature_graph_c.specs.binary.Words.{words}

pub word_next : (items : List ℕ) (n : ℕ) (found : Option (List ℕ)) → option_map (λ ws. (items ++ n ∷ []) ++ ws) found ≡ option_map (λ ws. items ++ ws) (option_map (λ ws. n ∷ ws) found)
word_next items n None = refl
word_next items n (Some ws) = ap Some (append_assoc items (n ∷ []) ws)

-- Fewer than eight bytes are no number.
pub too_short : (rest : List ℕ) → length rest < 8 → (rest ≡ [] → ⊥) → words rest ≡ None
too_short [] l some = absurd (some refl)
too_short (a ∷ []) l some = refl
too_short (a ∷ (b ∷ [])) l some = refl
too_short (a ∷ (b ∷ (c ∷ []))) l some = refl
too_short (a ∷ (b ∷ (c ∷ (d ∷ [])))) l some = refl
too_short (a ∷ (b ∷ (c ∷ (d ∷ (e ∷ []))))) l some = refl
too_short (a ∷ (b ∷ (c ∷ (d ∷ (e ∷ (f ∷ [])))))) l some = refl
too_short (a ∷ (b ∷ (c ∷ (d ∷ (e ∷ (f ∷ (g ∷ []))))))) l some = refl
too_short (a ∷ (b ∷ (c ∷ (d ∷ (e ∷ (f ∷ (g ∷ (h ∷ rest)))))))) l some = absurd (omega (arith, l))

-- Eight bytes are a number, before the numbers of the bytes after them.
pub word_first : (rest : List ℕ) → 8 ≤ length rest → words rest ≡ option_map (λ ws. from_le_bytes w64 (take 8 rest) ∷ ws) (words (drop 8 rest))
word_first [] l = absurd (omega (arith, l))
word_first (a ∷ []) l = absurd (omega (arith, l))
word_first (a ∷ (b ∷ [])) l = absurd (omega (arith, l))
word_first (a ∷ (b ∷ (c ∷ []))) l = absurd (omega (arith, l))
word_first (a ∷ (b ∷ (c ∷ (d ∷ [])))) l = absurd (omega (arith, l))
word_first (a ∷ (b ∷ (c ∷ (d ∷ (e ∷ []))))) l = absurd (omega (arith, l))
word_first (a ∷ (b ∷ (c ∷ (d ∷ (e ∷ (f ∷ [])))))) l = absurd (omega (arith, l))
word_first (a ∷ (b ∷ (c ∷ (d ∷ (e ∷ (f ∷ (g ∷ []))))))) l = absurd (omega (arith, l))
word_first (a ∷ (b ∷ (c ∷ (d ∷ (e ∷ (f ∷ (g ∷ (h ∷ rest)))))))) l = refl

-- A number is read.
pub word_more : (items next rest tail : List ℕ) (n : ℕ) (all : Option (List ℕ)) → 8 ≤ length rest → n ≡ from_le_bytes w64 (take 8 rest) → tail ≡ drop 8 rest → next ≡ items ++ n ∷ []
    → option_map (λ ws. items ++ ws) (words rest) ≡ all → option_map (λ ws. next ++ ws) (words tail) ≡ all
word_more items next rest tail n all l is is_tail pushed so_far =
    ap (λ z. option_map (λ ws. z ++ ws) (words tail)) pushed ∙ word_next items n (words tail)
    ∙ ap (λ z. option_map (λ ws. items ++ ws) (option_map (λ ws. n ∷ ws) (words z))) is_tail
    ∙ ap (λ z. option_map (λ ws. items ++ ws) (option_map (λ ws. z ∷ ws) (words (drop 8 rest)))) is
    ∙ ap (option_map (λ ws. items ++ ws)) (sym (word_first rest l)) ∙ so_far
