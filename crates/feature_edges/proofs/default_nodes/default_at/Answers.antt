use Rattle.std.proofs.Common.{◌≡◌, ◌<◌, ℕ, Some, arith, length, subst}
use Rattle.std.specs.Prelude.{◌↔◌, slice_get, slice_index}
use Rattle.guppy_packages.specs.Metadata.{package_graph_of, package_table_of}
use Rattle.feature_links.specs.Links.{IsPackage}
use Rattle.feature_edges.proofs.AddsLemmas.{place_below}
use Rattle.feature_edges.proofs.DefaultLemmas.{default_of_list}
use Rattle.feature_edges.proofs.LabelLemmas.{package_there}
use Rattle.feature_edges.proofs.default_nodes.default_at.Goals as goal

pub returns : goal.returns
returns c =
    let t = c.args.numbers.graph.now in
    let table = package_table_of c.args.metadata in
    let p = c.args.metadata.package_ix in
    let there : IsPackage t p table = package_there t (package_graph_of c.args.metadata) p table c.requires.graph (subst (λ z. slice_get (package_graph_of c.args.metadata).packages z ≡ Some table) c.package_ix.ensures.number c.package_ix.ensures.package) in
    let within : p < length t.packages = place_below t.packages p table there in
    let is = default_of_list t c.args.nodes.now p c.requires.nodes (omega (arith, within, c.requires.nodes.long)) in
    let given : (n : ℕ) → (c.positive_at.result ≡ Some n) ↔ ((n ≡ slice_index c.args.nodes.now p) × (0 < n)) = subst (λ z. (n : ℕ) → (c.positive_at.result ≡ Some n) ↔ ((n ≡ slice_index c.args.nodes.now z) × (0 < n))) c.package_ix.ensures.number c.positive_at.ensures in
    λ n. (λ h. (is n).1 ((given n).0 h), λ h. (given n).1 ((is n).0 h))
