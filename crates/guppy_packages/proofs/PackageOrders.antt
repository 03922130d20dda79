-- The members of sets in the order of packages.
use Rattle.std.proofs.Common.{◌≡◌, ℕ, zero, suc, ◌<◌, Bool, true, false, cond, List, [], ◌∷◌, length, filter, refl, arith}
use Rattle.std.specs.Prelude.{All, reverse}
use Rattle.std.proofs.lemmas.List.Elements.{All-cons, All-nil}
use Rattle.std.proofs.lemmas.List.Sorted.{All-permutation, IsPermutation-reverse}
use Rattle.guppy_support.specs.digraphs.Bits.{has}
use Rattle.guppy_support.specs.digraph_orders.Sequences.{IsOrderOf, Sequence}
use Rattle.guppy_support.specs.Views.{in_order}
use Rattle.guppy_support.specs.declared.reading.Reading.{Reading}
use Rattle.guppy_support.specs.declared.reading.Reading.TheVariants.{Forward, Backward}
use Rattle.guppy_packages.specs.PackageOrder.{digraph_of_packages}
use Rattle.guppy_packages.specs.Tables.{Tables}

has_below : (set : List Bool) (k : ℕ) → has set k ≡ true → k < length set
has_below [] k h = cc
has_below (b ∷ bs) zero h = omega arith
has_below (b ∷ bs) (suc k) h = let l = has_below bs k h in omega (arith, l)

kept_below : (set : List Bool) (list : List ℕ) → All (λ v. v < length set) (filter (λ v. has set v) list)
kept_below set [] = All-nil (λ v. v < length set)
kept_below set (v ∷ vs) = go (has set v) refl (kept_below set vs)
  where
    go : (b : Bool) → has set v ≡ b → All (λ v. v < length set) (filter (λ v. has set v) vs) → All (λ v. v < length set) (cond b (v ∷ filter (λ v. has set v) vs) (filter (λ v. has set v) vs))
    go true e more = All-cons (λ v. v < length set) v (filter (λ v. has set v) vs) (has_below set v e) more
    go false e more = more

-- each listed member is below the length of the set
pub listed_below : (r : Reading) (list : List ℕ) (set : List Bool) → All (λ v. v < length set) (in_order r list set)
listed_below Forward list set = kept_below set list
listed_below Backward list set =
    let kept = filter (λ v. has set v) list in
    All-permutation (λ v. v < length set) kept (reverse kept) (IsPermutation-reverse kept) (kept_below set list)

-- an order of packages lists as many as there are
pub order_long : (t : Tables) (o : Sequence) → IsOrderOf (digraph_of_packages t) o → length o.list ≡ length t.packages
unfolding digraph_of_packages
order_long t o h = h.order.long
