-- Lists of numbers by two tests that agree.
use Rattle.std.proofs.Common.{◌≡◌, ℕ, ◌+◌, ◌<◌, List, [], ◌∷◌, ◌++◌, Bool, ap, ap₂, arith, if◌then◌else◌, length, refl}
use Rattle.std.specs.Prelude.{not, ◌&&◌}
use Rattle.plan_whys.specs.links.SpotLinks.{is_command}
use Rattle.cargo_plans.specs.plan_starts.Lists.{joined_from}
use Rattle.plan_whys.specs.Steps.{SpotText}
use Rattle.feats_tree.specs.features.Roots.{numbers_in}

abbrev number_of : (ℕ → Bool) → ℕ → SpotText → List ℕ
number_of test k s = if test k && not (is_command s.label) then k ∷ [] else []

same_from : (f g : ℕ → Bool) (n : ℕ) (spots : List SpotText) → ((k : ℕ) → k < n + length spots → f k ≡ g k) → joined_from (number_of f) n spots ≡ joined_from (number_of g) n spots
same_from f g n [] same = refl
same_from f g n (s ∷ spots) same =
    ap₂ (λ (xs ys : List ℕ). xs ++ ys)
    (ap (λ (b : Bool). if b && not (is_command s.label) then n ∷ [] else []) (same n (omega arith)))
    (same_from f g (n + 1) spots (λ k below. same k (omega (arith, below))))

pub same_numbers : (f g : ℕ → Bool) (spots : List SpotText) → ((k : ℕ) → k < length spots → f k ≡ g k) → numbers_in f spots ≡ numbers_in g spots
same_numbers f g spots same = same_from f g 0 spots (λ k below. same k (omega (arith, below)))
