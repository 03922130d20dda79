use Rattle.std.proofs.Common.{not, ap, sym, ◌∙◌, arith}
use Rattle.feature_links.specs.Facts.{has_present_link}
use Rattle.feature_links.specs.Values.{edge_facts}
use Rattle.feature_edges.proofs.ListSteps.{sought_first, sought_next, sought_here, sought_none}
use Rattle.feature_edges.proofs.pool.first_absent.Goals as goal

pub loop-number-init : goal.loop-number-init
loop-number-init c = sought_first (λ f. not (has_present_link f)) c.args.edges.now

pub loop-number-preserved : goal.loop-number-preserved
loop-number-preserved c =
    let said = edge_facts c.get.result.now in
    sought_next (λ f. not (has_present_link f)) c.args.edges.now c.loop-number.number said c.get.ensures (ap not (sym c.has_present_link.ensures ∙ c.if-not-has_present_link.false)) c.loop-number.invariant

pub returns-then-not-has_present_link : goal.returns-then-not-has_present_link
returns-then-not-has_present_link c =
    let said = edge_facts c.get.result.now in
    sought_here (λ f. not (has_present_link f)) c.args.edges.now c.loop-number.number said c.get.ensures (ap not (sym c.has_present_link.ensures ∙ c.if-not-has_present_link.true)) c.loop-number.invariant

pub returns : goal.returns
returns c = sought_none (λ f. not (has_present_link f)) c.args.edges.now c.loop-number.number (omega arith) c.loop-number.invariant
