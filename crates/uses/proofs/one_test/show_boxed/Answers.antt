use Rattle.std.proofs.Common.{refl, inl, inr}
use Rattle.guppy_features.specs.feature_graph.Visits.{offered}
use Rattle.uses.proofs.one_test.show_boxed.OwnLists.{own-1}
use Rattle.uses.proofs.one_test.show_boxed.Goals as goal

-- What a box holds, the one visitor or the other, in whatever state, may be asked for every link.
pub resolve_with-requires : goal.resolve_with-requires
resolve_with-requires c κs =
    let q = c.in_ok-again.again in (
      (refl, tt),
      λ run t o a e h w i b.
          (elim t.vtable as (λ v. (x : (own-1.entry v).0.Denot) → (own-1.entry v).1.can_visit_any x q (offered q.graph e h)) [
            | inl u ↦ λ x. tt
            | inr z ↦ elim z as (λ y. (x : (own-1.entry (inr y)).0.Denot) → (own-1.entry (inr y)).1.can_visit_any x q (offered q.graph e h)) [ inl u ↦ λ x. tt | inr n ↦ λ x. absurd n ]
          ])
          t.value,
    )
