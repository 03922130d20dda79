-- The next item of an iterator over the items of a list.
use Rattle.std.proofs.Common.{◌≡◌, sym, ap, refl, List, [], ◌∷◌, Option, Some, None}
use Rattle.std.proofs.lemmas.Iterator.{YieldsList}

pub next_yielded : {S A B : Type 0} (steps : S → Option A → S → Type 0) (v : A → B) (s j : S) (x : A) (ys : List B) → YieldsList steps v s ys → steps s (Some x) j → (rest : List B) × (ys ≡ v x ∷ rest) × YieldsList steps v j rest
next_yielded steps v s j x [] yields step = absurd (yields.runs x j step)
next_yielded steps v s j x (y ∷ ys) yields step =
    let first = yields.runs.1 x j step in
    (ys, ap (λ z. z ∷ ys) (sym first.0), record { runs = first.1 })

pub none_yielded : {S A B : Type 0} (steps : S → Option A → S → Type 0) (v : A → B) (s j : S) (ys : List B) → YieldsList steps v s ys → steps s None j → ys ≡ []
none_yielded steps v s j [] yields step = refl
none_yielded steps v s j (y ∷ ys) yields step = absurd (yields.runs.0 j step)
