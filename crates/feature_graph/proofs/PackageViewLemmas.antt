-- The packages of a set, in the order of packages.
use Rattle.std.proofs.Common.{◌≡◌, ℕ, ◌<◌, ◌∙◌, cond, List, ◌∷◌, length, ap, sym, subst}
use Rattle.std.specs.Prelude.{All, IsFalse, reverse}
use Rattle.std.proofs.lemmas.List.Elements.{All-from_get_or}
use Rattle.std.proofs.lemmas.List.Sorted.{All-permutation, IsPermutation-reverse}
use Rattle.digraph_orders.specs.Sequences.{Sequence, IsSequence, IsOrderOf}
use Rattle.guppy_packages.specs.PackageOrder.{digraph_of_packages}
use Rattle.guppy_packages.specs.Tables.{Tables}
use Rattle.guppy_packages.specs.declared.direction.DependencyDirection.{DependencyDirection}
use Rattle.guppy_packages.specs.declared.direction.DependencyDirection.TheVariants.{Forward, Reverse}
use Rattle.feature_graph.specs.PackageViews.{as_read, with_members}
use Rattle.feature_graph.specs.Packages.{has_member_of}
use Rattle.feature_graph.specs.Values.{Set}

-- a package without a member is not among the remaining ones
pub passed_package : (s : Set) (p : ℕ) (rest numbers : List ℕ) → numbers ≡ p ∷ rest → IsFalse (has_member_of s.graph.tables s.members p) → with_members s rest ≡ with_members s numbers
passed_package s p rest numbers is none =
    let others : List ℕ = with_members s rest in
    sym (ap (with_members s) is ∙ ap (λ b. cond b (p ∷ others) others) none)

order_long : (t : Tables) (o : Sequence) → IsOrderOf (digraph_of_packages t) o → length o.list ≡ length t.packages
unfolding digraph_of_packages
order_long t o order = order.order.long

all_as_read : (P : ℕ → Type 0) (direction : DependencyDirection) (numbers : List ℕ) → All P numbers → All P (as_read direction numbers)
all_as_read P Forward numbers h = h
all_as_read P Reverse numbers h = All-permutation P numbers (reverse numbers) (IsPermutation-reverse numbers) h

-- the order of packages lists package numbers
pub order_within : (t : Tables) (o : Sequence) (direction : DependencyDirection) → IsSequence o → IsOrderOf (digraph_of_packages t) o → All (λ p. p < length t.packages) (as_read direction o.list)
order_within t o direction sequence order =
    let listed : All (λ p. p < length o.list) o.list = All-from_get_or (λ p. p < length o.list) o.list 0 sequence.each.below in
    all_as_read (λ p. p < length t.packages) direction o.list (subst (λ (n : ℕ). All (λ p. p < n) o.list) (order_long t o order) listed)
