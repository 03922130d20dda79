use Rattle.std.proofs.Common.{◌≡◌, ◌≤◌, ◌+◌, ◌∙◌, map, arith, ap, sym, subst}
use Rattle.std.specs.Prelude.{◌↔◌, Contains}
use Rattle.feature_core.specs.Nodes.{first_node}
use Rattle.feature_labels.specs.Names.{LabelName, label_of}
use Rattle.feature_graph.specs.inner.MemberLabels.{HasMemberBelow}
use Rattle.feature_graph.proofs.PackageListLemmas.{none_gathered, one_gathered, all_gathered}
use Rattle.feature_graph.proofs.set.FeatureSet.labels_of.Goals as goal

pub nodes-init : goal.nodes-init
nodes-init c =
    let t = c.args.self.now.graph.tables in
    let p = c.args.package_ix in
    let first : c.nodes_of-nodes.result.start ≡ first_node t p = c.nodes_of-nodes.ensures.first ∙ ap (λ s. first_node s.graph.tables p) c.self.view_is in
    subst (λ items. (label : LabelName) → Contains (map label_of items) label ↔ HasMemberBelow t c.args.self.now.members p c.nodes_of-nodes.result.start label) (sym c.new-labels.ensures.items)
    (none_gathered t c.args.self.now.members p c.requires c.nodes_of-nodes.result.start first)

pub push_label-requires : goal.push_label-requires
push_label-requires c = record {
  within = c.requires;
  first = omega (arith, c.nodes.auto.node, c.nodes_of-nodes.ensures.first, ap (λ s. first_node s.graph.tables c.args.package_ix) c.self.view_is);
  last = omega (arith, c.nodes-test.true, c.nodes_of-nodes.ensures.end, ap (λ s. first_node s.graph.tables (c.args.package_ix + 1)) c.self.view_is);
}

pub nodes-preserved : goal.nodes-preserved
nodes-preserved c =
    one_gathered c.args.self.now.graph.tables c.args.self.now.members c.args.package_ix c.requires c.nodes.node
    (map label_of c.nodes.labels.items) (map label_of c.push_label.new.labels.items) c.nodes.invariant c.in_ok-push_label.ensures

pub returns : goal.returns
returns c =
    let t = c.args.self.now.graph.tables in
    let p = c.args.package_ix in
    let end : c.nodes_of-nodes.result.end ≡ first_node t (p + 1) = c.nodes_of-nodes.ensures.end ∙ ap (λ s. first_node s.graph.tables (p + 1)) c.self.view_is in
    let past : first_node t (p + 1) ≤ c.nodes.node = omega (arith, end, c.nodes-test.false) in
    all_gathered t c.args.self.now.members p c.requires c.nodes.node (map label_of c.nodes.labels.items) past c.nodes.invariant
