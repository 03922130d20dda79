use Rattle.std.proofs.Common.{◌≡◌, ◌<◌, ◌∙◌, ◌∷◌, [], length, map, arith, ap, sym, subst}
use Rattle.std.specs.Prelude.{IsTrue}
use Rattle.std.proofs.lemmas.List.{map-append}
use Rattle.digraphs.specs.Bits.{has}
use Rattle.feature_core.specs.Built.{NodeNamed}
use Rattle.feature_core.specs.Nodes.{NodeAt, nodes}
use Rattle.feature_labels.specs.Names.{id_of, label_of}
use Rattle.feature_graph.specs.inner.MemberLabels.{AddsLabel}
use Rattle.feature_graph.proofs.NodePackages.{label_at_node}
use Rattle.feature_graph.proofs.PackageListLemmas.{adds_label}
use Rattle.feature_graph.proofs.RangeLemmas.{node_of, range_within}
use Rattle.feature_graph.proofs.set.FeatureSet.push_label.Goals as goal

pub contains-requires : goal.contains-requires
contains-requires c =
    let below = range_within c.args.self.now.graph.tables c.args.package_ix c.args.node c.requires.within c.requires.first c.requires.last in
    subst (λ s. c.args.node < length s.members) (sym c.self.view_is) (omega (arith, below, ap (λ s. length s.members) c.self.view_is, c.self.invariant, ap (λ s. length (nodes s.graph.tables)) c.self.view_is))

pub returns-in_ok-push : goal.returns-in_ok-push
returns-in_ok-push c =
    let t = c.args.self.now.graph.tables in
    let members = c.args.self.now.members in
    let name = id_of c.id.result in
    let named : NodeNamed t c.args.node name = subst (λ s. NodeNamed s.graph.tables c.args.node name) c.self.view_is c.id.ensures in
    let of = (node_of t c.args.package_ix c.args.node c.requires.within).1 (c.requires.first, c.requires.last) in
    let at : NodeAt t c.args.node c.args.package_ix (label_of c.label.result) = subst (λ l. NodeAt t c.args.node c.args.package_ix l) (sym c.label.ensures) (label_at_node t c.args.node c.args.package_ix name of named) in
    let is : IsTrue (has members c.args.node) = subst (λ s. IsTrue (has s.members c.args.node)) c.self.view_is (sym c.contains.ensures ∙ c.if-contains.true) in
    let added : map label_of c.push.new.self.items ≡ _ = ap (map label_of) c.in_ok-push.ensures.items ∙ map-append label_of c.args.labels.now.items (c.label.result ∷ []) in
    subst (λ l. AddsLabel t members c.args.package_ix c.args.node (map label_of c.args.labels.now.items) l) (sym added)
    (adds_label t members c.args.package_ix c.args.node (map label_of c.args.labels.now.items) (label_of c.label.result) at is)
