use Rattle.std.proofs.Common.{ap}
use Rattle.std.proofs.lemmas.Result.{IfOk-weaker}
use Rattle.guppy_features.specs.guppy_packages.declared.direction.DependencyDirection.TheVariants.{Reverse}
use Rattle.guppy_features.specs.feature_core.Built.{NodeNamed}
use Rattle.guppy_features.specs.feature_labels.Names.{id_of}
use Rattle.guppy_features.specs.feature_graph.Views.{tables_of_graph}
use Rattle.uses.proofs.Named.{named_alone, reached_from}
use Rattle.uses.proofs.brings_in.brought_in_by.Goals as goal

pub returns-clause-exact : goal.returns-clause-exact
returns-clause-exact c =
    let t = tables_of_graph c.args.graph in
    let name = id_of c.args.id in
    let query = c.in_ok-query in
    IfOk-weaker
    c.resolve.result _ _
    (λ set reach. reached_from t Reverse (λ m. NodeNamed t m name) query.query set.members (ap (λ g. g.tables) query.ensures.graph) query.ensures.direction (named_alone t name query.query.initials query.ensures.initials) reach)
    c.resolve.ensures.reach
