use Rattle.std.proofs.Common.{◌≡◌, ◌∙◌, Some, ap, refl, subst, sym}
use Rattle.guppy_packages.specs.Metadata.{package_table_of}
use Rattle.feature_links.specs.Links.{IsPackage}
use Rattle.feature_graph.proofs.ListLemmas.{element_at_place}
use Rattle.feature_graph.proofs.PackageLemmas.{no_package, id_found}
use Rattle.feature_graph.proofs.graph.FeatureGraph.all_features_for.Goals as goal

pub returns-in_default-clause-refused : goal.returns-in_default-clause-refused
returns-in_default-clause-refused c = (refl, no_package c.args.self.now.graph.now c.args.package_id.now c.in_default.ensures.found)

pub returns-in-Ok-package_list-clause-listed : goal.returns-in-Ok-package_list-clause-listed
returns-in-Ok-package_list-clause-listed c =
    let t = c.args.self.now.graph.now in
    let table = package_table_of c.in-Ok.package in
    let p = c.in-Ok.package.package_ix in
    let is : IsPackage t p table = subst (λ z. IsPackage z p table) c.in-Ok.ensures.found.0 c.in-Ok.package.stands in
    let id : table.id ≡ c.args.package_id.now = id_found t c.args.package_id.now p table c.in-Ok.ensures.found.1 is in
    let listed = c.in-Ok-package_list.ensures in
    record {
      table = table;
      is_package = element_at_place t.packages p table is;
      named = id;
      of_graph = listed.graph ∙ c.in-Ok.ensures.found.0;
      at_place = c.in-Ok.ensures.found.1 ∙ ap Some (sym listed.number);
      of_package = listed.of_package ∙ id;
      labels = listed.labels;
      ascends = listed.ascends;
    }

pub returns-in-Err-clause-refused : goal.returns-in-Err-clause-refused
returns-in-Err-clause-refused c =
    let t = c.args.self.now.graph.now in
    let table = package_table_of c.in-Ok.package in
    let p = c.in-Ok.package.package_ix in
    let is : IsPackage t p table = subst (λ z. IsPackage z p table) c.in-Ok.ensures.found.0 c.in-Ok.package.stands in
    (table, element_at_place t.packages p table is, id_found t c.args.package_id.now p table c.in-Ok.ensures.found.1 is)
