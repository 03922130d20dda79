use Rattle.std.proofs.Common.{rules, inl, inr}
use Rattle.guppy_vectors.proofs.surface.filters.boxed.OwnLists.{own-1}
use Rattle.guppy_vectors.proofs.surface.filters.boxed.Goals as goal

-- The boxed filter accepts a call for every feature, in every state.
pub select_by-requires : goal.select_by-requires
select_by-requires c κs =
    (search rules, λ s g i. (elim s.vtable as (λ v. (x : (own-1.entry v).0.Denot) → (own-1.entry v).1.can_accept_any x g i) [ inl u ↦ λ x. tt | inr z ↦ λ x. absurd z ]) s.value)
