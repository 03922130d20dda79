use Rattle.std.proofs.Common.{rules, inl, inr}
use Rattle.guppy_vectors.proofs.surface.visits.lend_box.OwnLists.{own-1}
use Rattle.guppy_vectors.proofs.surface.visits.lend_box.Goals as goal

-- The boxed visitor accepts a call for every link, in every state.
pub resolve_each-requires : goal.resolve_each-requires
resolve_each-requires c κs =
    (search rules, λ s q l. (elim s.vtable as (λ v. (x : (own-1.entry v).0.Denot) → (own-1.entry v).1.can_visit_any x q l) [ inl u ↦ λ x. tt | inr z ↦ λ x. absurd z ]) s.value)
