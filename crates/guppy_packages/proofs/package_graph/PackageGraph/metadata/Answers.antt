use Rattle.std.proofs.Common.{◌≡◌, ◌∙◌, Some, None, ap, sym}
use Rattle.std.specs.Prelude.{position}
use Rattle.std.specs.Str.{bytes_eq}
use Rattle.guppy_packages.specs.Metadata.{package_table_of}
use Rattle.guppy_packages.specs.Tables.{package_place}
use Rattle.guppy_packages.proofs.StoredLemmas.{place_of_key, id_at_place}
use Rattle.guppy_packages.proofs.package_graph.PackageGraph.metadata.Goals as goal

pub returns-in-Some-clause-found : goal.returns-in-Some-clause-found
returns-in-Some-clause-found c =
    let found : Some c.in-Some.ix ≡ position (λ e. bytes_eq c.args.id.now e.0) c.self.inside.packages = c.in-Some.ensures in
    let place = ap (λ t. package_place c.args.id.now t.packages) (sym c.self.view_is) ∙ place_of_key c.args.id.now c.self.inside.packages ∙ sym found in
    (c.package.ensures.graph, rw c.package.ensures.number place)

pub returns-in-Some-clause-id : goal.returns-in-Some-clause-id
returns-in-Some-clause-id c =
    let found : Some c.in-Some.ix ≡ position (λ e. bytes_eq c.args.id.now e.0) c.self.inside.packages = c.in-Some.ensures in
    let place = ap (λ t. package_place c.args.id.now t.packages) (sym c.self.view_is) ∙ place_of_key c.args.id.now c.self.inside.packages ∙ sym found in
    id_at_place c.args.id.now c.args.self.now.packages c.in-Some.ix (package_table_of c.package.result) place c.package.ensures.package

pub returns-in-None-clause-found : goal.returns-in-None-clause-found
returns-in-None-clause-found c =
    let found : None ≡ position (λ e. bytes_eq c.args.id.now e.0) c.self.inside.packages = c.in-None.ensures in
    ap (λ t. package_place c.args.id.now t.packages) (sym c.self.view_is) ∙ place_of_key c.args.id.now c.self.inside.packages ∙ sym found
