-- Lists that loops append to.
use Rattle.std.proofs.Common.{◌≡◌, ◌∙◌, ℕ, ◌+◌, ◌<◌, List, ◌∷◌, ◌++◌, flat_map, map, drop, length, get_or, ap, sym, refl, append_assoc, add-one, drop-cons}

-- one more item
pub flat_more : {X Y Z : Type 0} (f : Y → List Z) (g : X → Y) (xs : List X) (i : ℕ) (d : X) (all so_far new : List Z) → i < length xs
    → all ≡ so_far ++ flat_map f (map g (drop i xs)) → new ≡ so_far ++ f (g (get_or xs i d))
    → all ≡ new ++ flat_map f (map g (drop (i + 1) xs))
flat_more f g xs i d all so_far new within so grown =
    let at : drop i xs ≡ get_or xs i d ∷ drop (i + 1) xs = rw (add-one, drop-cons xs i d within) refl in
    so ∙ ap (λ ys. so_far ++ flat_map f (map g ys)) at
    ∙ sym (append_assoc so_far (f (g (get_or xs i d))) (flat_map f (map g (drop (i + 1) xs))))
    ∙ ap (λ t. t ++ flat_map f (map g (drop (i + 1) xs))) (sym grown)

-- the same, if the item is read as one that isn't copied
pub flat_next : {X Y Z : Type 0} (f : Y → List Z) (g : X → Y) (xs : List X) (i : ℕ) (x : X) (all so_far new : List Z) → i < length xs → x ≡ get_or xs i x
    → all ≡ so_far ++ flat_map f (map g (drop i xs)) → new ≡ so_far ++ f (g x)
    → all ≡ new ++ flat_map f (map g (drop (i + 1) xs))
flat_next f g xs i x all so_far new within is so grown = flat_more f g xs i x all so_far new within so (grown ∙ ap (λ z. so_far ++ f (g z)) is)
