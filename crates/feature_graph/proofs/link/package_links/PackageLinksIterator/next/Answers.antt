use Rattle.std.proofs.Common.{◌≡◌, ℕ, suc, ◌<◌, List, ◌∷◌, length, subst, arith}
use Rattle.std.specs.Prelude.{slice_index_or}
use Rattle.std.specs.Slice.Iter.{iter_rest}
use Rattle.feature_graph.proofs.link.package_links.PackageLinksIterator.next.Goals as goal

of_rest : (n x : ℕ) (xs ys : List ℕ) → ys ≡ x ∷ xs → ((k d : ℕ) → k < length ys → slice_index_or ys k d < n) → (k d : ℕ) → k < length xs → slice_index_or xs k d < n
of_rest n x xs ys e all k d h =
    let each : (k d : ℕ) → k < length (x ∷ xs) → slice_index_or (x ∷ xs) k d < n = subst (λ z. (k d : ℕ) → k < length z → slice_index_or z k d < n) e all in
    each (suc k) d (omega (arith, h))

pub invariant_of-self-2 : goal.invariant_of-self-2
invariant_of-self-2 c =
    of_rest (length c.self.inside.graph.now.links) c.in_ok-number.field-0.now (iter_rest c.next.new.self) (iter_rest c.self.inside.numbers) c.in_ok-number.ensures.steps c.self.invariant
