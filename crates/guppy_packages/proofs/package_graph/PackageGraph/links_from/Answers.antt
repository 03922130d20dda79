use Rattle.std.proofs.Common.{◌≡◌, ◌∙◌, ◌<◌, length, arith, subst, sym}
use Rattle.std.proofs.lemmas.List.{length-map}
use Rattle.guppy_packages.specs.Stored.{link_tables, package_table, package_tables}
use Rattle.guppy_packages.specs.Tables.{AreLinksFrom, Tables}
use Rattle.guppy_packages.proofs.LinkRanges.{links_begun}
use Rattle.guppy_packages.proofs.package_graph.PackageGraph.links_from.Goals as goal

pub returns : goal.returns
returns c =
    let t : Tables = record { packages = package_tables c.self.inside.packages; links = link_tables c.self.inside.links.items } in
    let count : c.len.result ≡ length t.packages = c.len.ensures ∙ sym (length-map c.self.inside.packages package_table) in
    let within : c.args.package_ix < length t.packages = omega (arith, count, c.if-package_ix-len.false) in
    subst (λ t. AreLinksFrom t.links c.args.package_ix c.index.result.now c.index-2.result.now) c.self.view_is
    (links_begun t.links (length t.packages) c.self.inside.begins.items c.self.invariant.2 c.args.package_ix c.index.result.now c.index-2.result.now within c.index.ensures c.index-2.ensures)
