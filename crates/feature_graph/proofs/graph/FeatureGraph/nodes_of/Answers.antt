use Rattle.std.proofs.Common.{◌≡◌, ◌+◌, ◌<◌, ◌∙◌, length, arith, ap, subst, Some}
use Rattle.std.specs.Prelude.{slice_get}
use Rattle.feature_graph.proofs.RangeLemmas.{length-first_nodes, first_node_at, first_node_past}
use Rattle.feature_graph.proofs.graph.FeatureGraph.nodes_of.Goals.{then-next-count, else-next-count}
use Rattle.feature_graph.proofs.graph.FeatureGraph.nodes_of.Goals as goal

pub first_node-end-requires : goal.first_node-end-requires
first_node-end-requires c =
    let t = c.args.self.now.graph.now in
    let firsts = ap length c.args.self.now.is_built.firsts ∙ length-first_nodes t in
    omega (arith, firsts, c.if-next-count.true, c.package_count-count.ensures)

pub first_node-requires : goal.first_node-requires
first_node-requires c =
    let t = c.args.self.now.graph.now in
    let firsts = ap length c.args.self.now.is_built.firsts ∙ length-first_nodes t in
    let within : c.args.package_ix < length t.packages = c.requires in
    omega (arith, firsts, within)

pub returns-clause-first : goal.returns-clause-first
returns-clause-first c =
    let t = c.args.self.now.graph.now in
    first_node_at t c.args.package_ix c.first_node.result c.requires
    (subst (λ l. slice_get l c.args.package_ix ≡ Some c.first_node.result) c.args.self.now.is_built.firsts c.first_node.ensures)

pub returns-clause-end : goal.returns-clause-end
returns-clause-end c =
    let t = c.args.self.now.graph.now in
    let within : c.args.package_ix < length t.packages = c.requires in
    elim c.if-next-count.branch [
      | then-next-count w ↦
          let below : c.args.package_ix + 1 < length t.packages = omega (arith, w.if-next-count.true, c.package_count-count.ensures) in
          w.end-is ∙ first_node_at t (c.args.package_ix + 1) w.first_node-end.result below
          (subst (λ l. slice_get l (c.args.package_ix + 1) ≡ Some w.first_node-end.result) c.args.self.now.is_built.firsts w.first_node-end.ensures)
      | else-next-count w ↦
          let last : c.args.package_ix + 1 ≡ length t.packages = omega (arith, within, w.if-next-count.false, c.package_count-count.ensures) in
          w.end-is ∙ w.feature_count-end.ensures ∙ first_node_past t (c.args.package_ix + 1) last
    ]
