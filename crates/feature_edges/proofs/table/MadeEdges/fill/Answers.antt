use Rattle.std.proofs.Common.{◌∙◌, length, refl}
use Rattle.std.proofs.lemmas.Result.{IfOk-weaker}
use Rattle.feature_edges.proofs.PackageWarnings.{warnings-all}
use Rattle.feature_edges.proofs.table.MadeEdges.fill.Goals as goal

pub returns-clause-warnings : goal.returns-clause-warnings
returns-clause-warnings c =
    let t = c.args.material.numbers.graph.now in
    IfOk-weaker c.into_warnings.result _ _
    (λ found is. is ∙ warnings-all t (length t.packages) c.add_packages.new.room.collected c.facts.ensures refl c.in_ok-add_packages.ensures.warnings)
    c.into_warnings.ensures

pub add_packages-requires-clause-warnings : goal.add_packages-requires-clause-warnings
add_packages-requires-clause-warnings c = c.new-room.ensures c.args.material.numbers.graph.now
