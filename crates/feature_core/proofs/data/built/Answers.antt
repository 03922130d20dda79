use Rattle.std.proofs.Common.{◌≡◌, ◌∙◌, ap, sym, subst, length}
use Rattle.feature_edges.specs.Nodes.{node_packages}
use Rattle.feature_core.proofs.PackedLemmas.{built_gates}
use Rattle.feature_core.specs.Built.{pairs_of, ends_of, built_edges}
use Rattle.feature_edges.specs.Edges.{AreBuilt}
use Rattle.feature_core.specs.Defaults.{AreDefaults}
use Rattle.feature_edges.specs.Pairs.{IsPairList}
use Rattle.feature_edges.specs.Warnings.{warnings}
use Rattle.feature_edges.proofs.BuildLemmas.{built_ends}
use Rattle.feature_core.proofs.data.built.Goals as goal

pub returns-clause-built : goal.returns-clause-built
returns-clause-built c =
    let t = c.args.graph.now in
    let graph : c.numbers_in-numbers.result.graph.now ≡ c.args.graph.now = c.numbers_in-numbers.ensures in
    let made = c.in_ok-edge_table.ensures in
    let table = c.in_ok-edge_table.edge_table in
    let facts = table.edges in
    let ends : ends_of (built_edges table.digraph.edges facts) ≡ pairs_of table.digraph.edges = built_ends table.digraph.edges facts made.long in
    record {
      firsts = c.in_ok-table.ensures.firsts;
      packages = c.in_ok-table.ensures.packages;
      pairs = subst (λ z. IsPairList t z) (sym ends) (subst (λ z. IsPairList z (pairs_of table.digraph.edges)) graph made.pairs);
      edges = subst (λ z. AreBuilt z (built_edges table.digraph.edges facts) table.weak.entries) graph made.edges;
      warnings = made.warnings ∙ ap warnings graph;
      defaults = subst (λ z. AreDefaults z c.in_ok-found.found.defaults) graph c.in_ok-found.ensures.defaults;
    }

pub invariant_of-result : goal.invariant_of-result
invariant_of-result c =
    let t = c.args.graph.now in
    let graph : c.numbers_in-numbers.result.graph.now ≡ c.args.graph.now = c.numbers_in-numbers.ensures in
    let made = c.in_ok-edge_table.ensures in
    let found = c.in_ok-found.ensures in
    let table = c.in_ok-edge_table.edge_table in
    let facts = table.edges in
    let built : AreBuilt t (built_edges table.digraph.edges facts) table.weak.entries = subst (λ z. AreBuilt z (built_edges table.digraph.edges facts) table.weak.entries) graph made.edges in
    let nodes : table.digraph.nodes ≡ length (node_packages t) = made.nodes ∙ ap length c.in_ok-table.ensures.packages in (
      made.nodes,
      made.long,
      made.ends,
      record {
        each = made.long;
        gates = built_gates t (built_edges table.digraph.edges facts) table.weak.entries table.digraph.nodes built nodes;
        releases = found.released;
      },
      found.defaults.long ∙ ap (λ z. length (node_packages z)) graph ∙ sym (ap length c.in_ok-table.ensures.packages),
      found.order,
      found.cyclic,
    )

pub found_with-requires : goal.found_with-requires
found_with-requires c =
    let graph : c.numbers_in-numbers.result.graph.now ≡ c.args.graph.now = c.numbers_in-numbers.ensures in
    record {
      nodes = c.in_ok-edge_table.ensures.nodes ∙ ap length c.in_ok-table.ensures.packages ∙ ap (λ z. length (node_packages z)) (sym graph);
      long = c.in_ok-edge_table.ensures.long;
      edges = c.in_ok-edge_table.ensures.edges;
      defaults = c.in_ok-edge_table.ensures.defaults;
    }
