use Rattle.std.proofs.Common.{◌≡◌, length, subst}
use Rattle.std.specs.Prelude.{IsFalse, MatchOption}
use Rattle.digraphs.specs.Bits.{has}
use Rattle.walk_engine.specs.Explanations.{IsExplanation, nodes_of}
use Rattle.walk_engine.specs.Walks.{is_in}
use Rattle.walk_checks.specs.Whys.{IsWhy}
use Rattle.feature_core.specs.Ways.{Reading}
use Rattle.feature_core.proofs.checks.why.Goals as goal

pub returns-clause-told : goal.returns-clause-told
returns-clause-told c initials A =
    let steps = c.args.steps.now in
    subst (λ (r : Reading). length initials ≡ r.holds.nodes → IsExplanation r.holds (has initials) A steps
    → MatchOption c.in_ok-found.found (IsFalse (is_in (nodes_of steps) c.args.node)) (λ kept. IsWhy r.holds (has initials) A steps c.args.node kept.items))
    c.new-table.ensures (c.in_ok-found.ensures initials A)
