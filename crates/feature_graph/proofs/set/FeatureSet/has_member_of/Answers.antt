use Rattle.std.proofs.Common.{◌≡◌, ◌<◌, ◌≤◌, ◌+◌, length, arith, sym, subst, true, false}
use Rattle.digraphs.specs.Bits.{has}
use Rattle.feature_core.specs.Nodes.{first_node}
use Rattle.feature_graph.specs.Packages.{has_member_of}
use Rattle.feature_graph.specs.Views.{tables_of_graph}
use Rattle.feature_graph.proofs.RangeLemmas.{found_member, no_member, range_within}
use Rattle.feature_graph.proofs.set.FeatureSet.has_member_of.Goals as goal

pub contains-requires : goal.contains-requires
contains-requires c =
    let t = tables_of_graph c.self.inside.graph in
    let within : c.args.package_ix < length t.packages = subst (λ s. c.args.package_ix < length s.graph.tables.packages) (sym c.self.view_is) c.requires in
    let from : first_node t c.args.package_ix ≤ c.nodes.node = omega (arith, c.nodes_of-nodes.ensures.first, c.nodes.auto.node) in
    let to : c.nodes.node < first_node t (c.args.package_ix + 1) = omega (arith, c.nodes_of-nodes.ensures.end, c.nodes-test.true) in
    let below = range_within t c.args.package_ix c.nodes.node within from to in
    omega (arith, below, c.self.invariant)

pub returns-then-contains : goal.returns-then-contains
returns-then-contains c =
    let t = tables_of_graph c.self.inside.graph in
    let within : c.args.package_ix < length t.packages = subst (λ s. c.args.package_ix < length s.graph.tables.packages) (sym c.self.view_is) c.requires in
    let from : first_node t c.args.package_ix ≤ c.nodes.node = omega (arith, c.nodes_of-nodes.ensures.first, c.nodes.auto.node) in
    let to : c.nodes.node < first_node t (c.args.package_ix + 1) = omega (arith, c.nodes_of-nodes.ensures.end, c.nodes-test.true) in
    let is : has c.self.inside.members c.nodes.node ≡ true = cc in
    let found = found_member t c.self.inside.members c.args.package_ix c.nodes.node within from to is in
    subst (λ s. true ≡ has_member_of s.graph.tables s.members c.args.package_ix) c.self.view_is (sym found)

pub returns : goal.returns
returns c =
    let t = tables_of_graph c.self.inside.graph in
    let within : c.args.package_ix < length t.packages = subst (λ s. c.args.package_ix < length s.graph.tables.packages) (sym c.self.view_is) c.requires in
    let none = no_member t c.self.inside.members c.args.package_ix within
    (λ k from to. let below : k < c.nodes.node = omega (arith, to, c.nodes-test.false, c.nodes_of-nodes.ensures.end) in c.nodes.invariant k from below) in
    subst (λ s. false ≡ has_member_of s.graph.tables s.members c.args.package_ix) c.self.view_is (sym none)
