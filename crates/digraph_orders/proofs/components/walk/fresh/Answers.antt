use Rattle.std.proofs.Common.{◌∙◌, ap, length}
use Rattle.std.proofs.lemmas.List.{length-replicate}
use Rattle.digraph_orders.proofs.ComponentLemmas.{started, zero_at}
use Rattle.digraph_orders.proofs.WalkLemmas.{finished_none}
use Rattle.digraph_orders.proofs.components.walk.fresh.Goals as goal

pub returns-clause-walk : goal.returns-clause-walk
returns-clause-walk c =
    let n = c.node_count-nodes.result in
    let e = c.in_ok-marks.ensures in
    rw (c.in_ok-pending.ensures.items, c.in_ok-bounds.ensures.items, c.in_ok-opened.ensures.items, c.in_ok-left.ensures.items, c.in_ok-finished.ensures, c.in_ok-several.ensures, c.node_count-nodes.ensures) (
      started c.args.graph.now c.in_ok-marks.marks.items (ap length e ∙ length-replicate n 0 ∙ c.node_count-nodes.ensures) (λ v. zero_at n v c.in_ok-marks.marks.items e),
      finished_none c.args.graph.now.nodes c.in_ok-marks.marks.items (λ v. zero_at n v c.in_ok-marks.marks.items e),
    )
