use Rattle.std.proofs.Common.{◌≤◌, None, map, sym, subst, arith, length}
use Rattle.std.specs.Prelude.{slice_get}
use Rattle.std.proofs.lemmas.Option.{slice_get_past}
use Rattle.feature_core.specs.Built.{built_edges}
use Rattle.feature_core.specs.Ways.{way, Reading}
use Rattle.walk_checks.specs.Tables.{Tells}
use Rattle.feature_core.proofs.DirectedLemmas.{content_length}
use Rattle.feature_core.proofs.directed_edges.PackedEdgeTable.edge.Goals as goal

pub returns-else-number-edge_count : goal.returns-else-number-edge_count
returns-else-number-edge_count c =
    let p = c.self.inside in
    let ways = map (way p.direction p.weak.now.entries) (built_edges p.digraph.now.edges p.edges.now) in
    let long = content_length p.weak.now.entries p.direction p.digraph.now p.edges.now c.self.invariant.each in
    let past : length ways ≤ c.args.number = omega (arith, long, c.edge_count.ensures, c.if-number-edge_count.false) in
    subst (λ (r : Reading). Tells (slice_get r.holds.ways c.args.number) None) c.self.view_is
    (subst (λ o. Tells o None) (sym (slice_get_past ways c.args.number past)) tt)
