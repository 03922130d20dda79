-- The order of keys.
use Rattle.std.proofs.Common.{◌≡◌, suc, inl, inr, List, ◌∷◌, Bool, true, false, cond, refl, ap, arith}
use Rattle.std.specs.Prelude.{All, AllPairs}
use Rattle.feature_edges.specs.declared.candidate.Key.{Key}
use Rattle.feature_edges.specs.inner.Keys.{rank, IsBefore, IsUpTo, IsNoLater}

pub before_up : (a b c : Key) → IsBefore a b → IsUpTo b c → IsBefore a c
before_up a b c (inl h) (inl (inl o)) = inl (omega arith)
before_up a b c (inl h) (inl (inr o)) = inl (omega arith)
before_up a b c (inl h) (inr o) = inl (omega arith)
before_up a b c (inr h) (inl (inl o)) = inl (omega arith)
before_up a b c (inr h) (inl (inr o)) = inr (omega arith, omega arith)
before_up a b c (inr h) (inr o) = inr (omega arith, omega arith)

pub AllPairs-first : {X : Type 0} (R : X → X → Type 0) (x : X) (xs : List X) → AllPairs R (x ∷ xs) → All (R x) xs
AllPairs-first R x xs h k d l = h 0 (suc k) d (omega arith) (omega arith)

pub AllPairs-later : {X : Type 0} (R : X → X → Type 0) (x : X) (xs : List X) → AllPairs R (x ∷ xs) → AllPairs R xs
AllPairs-later R x xs h i j d l m = h (suc i) (suc j) d (omega arith) (omega arith)

pub cond_has : {X : Type 0} (b : Bool) (P : X → Type 0) (x y : X) → (b ≡ true → P x) → (b ≡ false → P y) → P (cond b x y)
cond_has true P x y f g = f refl
cond_has false P x y f g = g refl

-- order by pair, kind, source and place is order by pair and rank
pub no_later_up : (a b : Key) → IsNoLater a b → IsUpTo a b
no_later_up a b (inl h) = inl h
no_later_up a b (inr (pair, inl l)) = inr (pair, omega arith)
no_later_up a b (inr (pair, inr (same, rest))) = inr (pair, omega (arith, ap rank same))
