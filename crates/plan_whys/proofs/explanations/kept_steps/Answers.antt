use Rattle.std.proofs.Common.{◌≡◌, length, subst, sym}
use Rattle.std.specs.Prelude.{IsFalse, MatchOption}
use Rattle.digraphs.specs.Bits.{has}
use Rattle.feature_core.specs.Ways.{Reading}
use Rattle.walk_engine.specs.Explanations.{IsExplanation, nodes_of}
use Rattle.walk_engine.specs.Laws.{every}
use Rattle.walk_engine.specs.Walks.{is_in}
use Rattle.walk_checks.specs.Places.{ArePlaces}
use Rattle.walk_checks.specs.Whys.{IsWhy}
use Rattle.plan_whys.proofs.explanations.kept_steps.Goals as goal

pub why_by_places-requires : goal.why_by_places-requires
why_by_places-requires c = subst (λ (r : Reading). ArePlaces r.holds.nodes c.args.steps.now c.args.places.now) (sym c.new-table.ensures) c.requires.places

pub returns : goal.returns
returns c =
    let steps = c.args.steps.now in
    (subst (λ (r : Reading). length c.args.initials.now ≡ r.holds.nodes → IsExplanation r.holds (has c.args.initials.now) every steps
    → MatchOption c.in_ok-found.found (IsFalse (is_in (nodes_of steps) c.args.node)) (λ kept. IsWhy r.holds (has c.args.initials.now) every steps c.args.node kept.items))
    c.new-table.ensures (c.in_ok-found.ensures c.args.initials.now every)) c.requires.size c.requires.explanation
