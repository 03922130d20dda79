use Rattle.std.proofs.Common.{sym, subst}
use Rattle.std.proofs.lemmas.Result.{IfOk-weaker}
use Rattle.feature_edges.specs.DefaultNodes.{IsDefaultNode}
use Rattle.feature_edges.proofs.DefaultLemmas.{default_some}
use Rattle.feature_edges.proofs.default_nodes.default_node.Goals as goal

pub returns-in-Some : goal.returns-in-Some
returns-in-Some c =
    let t = c.args.numbers.graph.now in
    let p = c.args.metadata.package_ix in
    IfOk-weaker c.narrow.result _ _ (λ d is. subst (IsDefaultNode t p) (sym is) (default_some t p c.in-Some.node c.in-Some.ensures)) c.narrow.ensures
