use Rattle.std.proofs.Common.{ap, map}
use Rattle.std.proofs.lemmas.Result.{IfOk-weaker}
use Rattle.guppy_features.specs.guppy_packages.declared.direction.DependencyDirection.TheVariants.{Forward}
use Rattle.guppy_features.specs.feature_graph.Views.{tables_of_graph}
use Rattle.uses.specs.Answers.{IsSelected}
use Rattle.uses.proofs.Named.{reached_from}
use Rattle.uses.proofs.workspace.build.Goals as goal

pub returns : goal.returns
returns c =
    let t = tables_of_graph c.args.graph in
    let names = map (λ name. name.now) c.args.names.now in
    let query = c.in_ok-query in
    IfOk-weaker
    c.resolve.result _ _
    (λ set reach. reached_from t Forward (IsSelected t names) query.query set.members (ap (λ g. g.tables) query.ensures.graph) query.ensures.direction query.ensures.initials reach)
    c.resolve.ensures.reach
