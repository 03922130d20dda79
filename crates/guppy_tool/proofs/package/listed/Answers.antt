use Rattle.std.proofs.Common.{ap, subst}
use Rattle.feature_graph.specs.Names.{ListsPackage, RefusesPackage}
use Rattle.feature_core.specs.Errors.{refusal_of as graph_refusal_of}
use Rattle.guppy_tool.specs.Faults.{refusal_of}
use Rattle.guppy_tool.proofs.AnswerLemmas.{lists_features, names_no_package}
use Rattle.guppy_tool.proofs.package.listed.Goals as goal

pub returns-in_ok-line_of-in-Ok : goal.returns-in_ok-line_of-in-Ok
returns-in_ok-line_of-in-Ok c =
    lists_features c.args.graph.now c.args.package_id.now c.in-Ok.labels _ c.facts.ensures
    (subst (λ z. ListsPackage z c.args.package_id.now c.in-Ok.labels) (ap (λ g. g.tables) c.feature_graph.ensures) c.in-Ok.ensures.listed)
    c.in_ok-line_of-in-Ok.ensures

pub returns-in-Err : goal.returns-in-Err
returns-in-Err c =
    names_no_package c.args.graph.now c.args.package_id.now (graph_refusal_of c.in-Err.error) (refusal_of c.fault_of.result)
    (subst (λ z. RefusesPackage z c.args.package_id.now (graph_refusal_of c.in-Err.error)) (ap (λ g. g.tables) c.feature_graph.ensures) c.in-Err.ensures.refused)
    c.fault_of.ensures
