-- Lists that are joined, item by item.
use Rattle.std.proofs.Common.{◌≡◌, ◌∙◌, sym, ap, ℕ, ◌+◌, ◌<◌, List, ◌∷◌, ◌++◌, map, drop, length, get_or, append_assoc}
use Rattle.std.proofs.lemmas.List.{drop_more}
use Rattle.cargo_plans.specs.plan_starts.Lists.{joined_from}

-- `joined_from` of a list with one more item at its end
pub joined_more : {X Y Z : Type 0} (g : X → Y) (f : ℕ → Y → List Z) (xs : List X) (i : ℕ) (x : X) (all so_far new : List Z) → i < length xs → x ≡ get_or xs i x
    → all ≡ so_far ++ joined_from f i (map g (drop i xs)) → new ≡ so_far ++ f i (g x) → all ≡ new ++ joined_from f (i + 1) (map g (drop (i + 1) xs))
joined_more g f xs i x all so_far new within is so grown =
    let rest = joined_from f (i + 1) (map g (drop (i + 1) xs)) in
    let cut : drop i xs ≡ x ∷ drop (i + 1) xs = drop_more xs i x within ∙ ap (λ y. y ∷ drop (i + 1) xs) (sym is) in
    so ∙ ap (λ ys. so_far ++ joined_from f i (map g ys)) cut
    ∙ sym (append_assoc so_far (f i (g x)) rest)
    ∙ ap (λ z. z ++ rest) (sym grown)
