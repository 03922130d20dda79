use Rattle.std.proofs.Common.{◌≡◌, ◌∙◌, map, ap, sym, subst, Some}
use Rattle.std.specs.Prelude.{◌↔◌, Contains, IfOk, slice_get}
use Rattle.guppy_packages.specs.Metadata.{package_graph_of, package_table_of}
use Rattle.feature_labels.specs.Names.{LabelName, label_of}
use Rattle.feature_graph.specs.PackageLists.{HasMemberAt}
use Rattle.feature_graph.proofs.PackageListLemmas.{members_listed}
use Rattle.feature_graph.proofs.set.FeatureSet.list_of.Goals as goal

pub returns : goal.returns
returns c =
    let t = c.args.self.now.graph.tables in
    let members = c.args.self.now.members in
    let p = c.args.package_ix in
    let of = c.package-package.result in
    let same : package_graph_of of ≡ t = c.package-package.ensures.graph ∙ c.package_graph.ensures ∙ ap (λ s. s.graph.tables) c.self.view_is in
    let is : slice_get (package_graph_of of).packages p ≡ Some (package_table_of of) = subst (λ u. slice_get u.packages p ≡ Some (package_table_of of)) (sym c.package-package.ensures.graph) c.package-package.ensures.package in
    let each : (label : LabelName) → Contains (map label_of c.as_slice.result.now) label ↔ HasMemberAt t members p label =
    subst (λ items. (label : LabelName) → Contains (map label_of items) label ↔ HasMemberAt t members p label) (sym c.as_slice.ensures.value) c.in_ok-labels.ensures in
    members_listed t members p (package_graph_of of) (package_table_of of) (map label_of c.as_slice.result.now) c.new.result same is each
    c.new.ensures.graph
    (subst (λ k. IfOk c.new.result (λ l. l.number ≡ k)) c.package-package.ensures.number c.new.ensures.number)
    c.new.ensures.of_package c.new.ensures.same c.new.ensures.ascends
