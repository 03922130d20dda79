-- Steps of loops over lists.
use Rattle.std.proofs.Common.{◌≡◌, ◌⊎◌, inl, inr, List, [], ◌∷◌, ◌++◌, Bool, true, false, map, refl}
use Rattle.std.specs.Prelude.{filter, if◌then◌else◌}

decide : (b : Bool) → (b ≡ true) ⊎ (b ≡ false)
decide true = inl refl
decide false = inr refl

-- an item that may pass
pub filtered : {X Y : Type 0} (test : X → Bool) (g : X → Y) (x : X) (xs : List X) → map g (filter test (x ∷ xs)) ≡ (if test x then g x ∷ [] else []) ++ map g (filter test xs)
filtered test g x xs = elim (decide (test x)) [ inl p ↦ rw p refl | inr p ↦ rw p refl ]
