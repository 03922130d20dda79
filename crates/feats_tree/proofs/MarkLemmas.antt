-- The bytes of marks.
use Rattle.std.proofs.Common.{◌≡◌, ◌∙◌, ap, refl, List, [], ◌∷◌, ◌++◌, ℕ, true, false, cond, Result, Ok, Err, OnOk, is_ok}
use Rattle.feats_tree.specs.trees.Lines.{bar, tee}
use lib.Utf8.{encode}

pub bar-true : bar true ≡ 226 ∷ 148 ∷ 130 ∷ 32 ∷ 32 ∷ 32 ∷ []
unfolding encode
bar-true = refl

pub tee-true : tee true ≡ 226 ∷ 148 ∷ 156 ∷ 226 ∷ 148 ∷ 128 ∷ 226 ∷ 148 ∷ 128 ∷ 32 ∷ []
unfolding encode
tee-true = refl

pub tee-false : tee false ≡ 226 ∷ 148 ∷ 148 ∷ 226 ∷ 148 ∷ 128 ∷ 226 ∷ 148 ∷ 128 ∷ 32 ∷ []
unfolding encode
tee-false = refl

-- a text was appended
pub pushed : {T E : Type 0} (r : Result T E) (old new part text : List ℕ) → new ≡ cond (is_ok r) (old ++ part) old → part ≡ text → OnOk r (new ≡ old ++ text)
pushed (Ok x) old new part text h is = h ∙ ap (λ z. old ++ z) is
pushed (Err e) old new part text h is = tt
