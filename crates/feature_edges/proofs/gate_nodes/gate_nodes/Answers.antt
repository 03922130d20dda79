use Rattle.std.proofs.Common.{◌∙◌, ap, subst, arith, length, length-append, [], ◌∷◌}
use Rattle.feature_edges.specs.inner.GateNodes.{IsGateNode}
use Rattle.feature_edges.proofs.GateLemmas.{pushed-each}
use Rattle.feature_edges.proofs.gate_nodes.gate_nodes.Goals as goal

pub loop-ix-preserved : goal.loop-ix-preserved
loop-ix-preserved c =
    let t = c.args.numbers.graph.now in
    let nodes = c.loop-ix.nodes.items in
    let d = c.in_ok-gate_node.field-0 in
    let all = c.loop-ix.invariant in
    let node = subst (λ z. IsGateNode t z d) c.link.ensures.number c.in_ok-gate_node.ensures in
    record {
      long = omega (arith, ap length c.in_ok-push.ensures.items ∙ length-append nodes (d ∷ []), all.long);
      each = pushed-each (IsGateNode t) nodes c.push.new.self.items c.loop-ix.ix d c.in_ok-push.ensures.items all.long node all.each;
    }
