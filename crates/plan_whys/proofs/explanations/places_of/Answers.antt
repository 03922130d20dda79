use Rattle.std.proofs.Common.{◌∙◌, ℕ, ap, subst}
use Rattle.feature_core.specs.Ways.{Reading}
use Rattle.walk_checks.specs.Places.{ArePlaces}
use Rattle.plan_whys.proofs.explanations.places_of.Goals as goal

pub returns : goal.returns
returns c = subst (λ (n : ℕ). ArePlaces n c.args.steps.now c.in_ok-places.places) (c.node_count.ensures.count ∙ ap (λ (r : Reading). r.holds.nodes) c.new-table.ensures) c.in_ok-places.ensures
