use Rattle.std.proofs.Common.{◌≡◌, ◌<◌, length, Some, arith, subst}
use Rattle.std.specs.Prelude.{slice_get}
use Rattle.guppy_packages.specs.Metadata.{package_table_of}
use Rattle.feature_core.specs.Nodes.{nodes}
use Rattle.feature_graph.proofs.BuiltLemmas.{built_count}
use Rattle.feature_graph.proofs.WorkspaceLemmas.{package_below, mark_at}
use Rattle.feature_graph.proofs.graph.FeatureGraph.is_in_workspace.Goals as goal

pub package_of-package_ix-requires : goal.package_of-package_ix-requires
package_of-package_ix-requires c =
    let count = built_count c.args.self.now.graph.now c.args.self.now.built.now c.args.self.now.is_built in
    let below : c.args.node < length (nodes c.args.self.now.graph.now) = c.requires in
    omega (arith, below, count)

pub package-requires : goal.package-requires
package-requires c =
    let t = c.args.self.now.graph.now in
    let built = c.args.self.now.is_built in
    package_below t c.args.node c.package_of-package_ix.result (subst (λ l. slice_get l c.args.node ≡ Some c.package_of-package_ix.result) built.packages c.package_of-package_ix.ensures)

pub returns : goal.returns
returns c =
    let t = c.args.self.now.graph.now in
    let built = c.args.self.now.is_built in
    mark_at t c.args.node c.package_of-package_ix.result (package_table_of c.package.result) c.in_workspace.result
    (subst (λ l. slice_get l c.args.node ≡ Some c.package_of-package_ix.result) built.packages c.package_of-package_ix.ensures)
    c.package.ensures.package c.in_workspace.ensures
