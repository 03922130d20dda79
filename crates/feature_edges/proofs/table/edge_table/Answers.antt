use Rattle.std.proofs.Common.{rules, ◌≡◌, ◌∙◌, ap, sym, subst, length, refl}
use Rattle.digraphs.specs.Graph.{IsDigraph}
use Rattle.feature_edges.specs.Nodes.{node_packages}
use Rattle.feature_edges.proofs.SoundEnds.{pairs_sound}
use Rattle.feature_edges.proofs.BuildLemmas.{all_long, all_ends, all_pairs, all_built}
use Rattle.feature_edges.proofs.table.edge_table.Goals as goal

pub returns-clause-long : goal.returns-clause-long
returns-clause-long c = all_long c.args.numbers.graph.now c.facts.ensures c.in_ok-made.made c.in_ok-made.ensures.made c.in_ok-digraph.digraph.edges (ap (λ g. g.edges) c.in_ok-digraph.ensures)

pub returns-clause-ends : goal.returns-clause-ends
returns-clause-ends c = all_ends c.args.numbers.graph.now c.facts.ensures c.in_ok-made.made c.in_ok-made.ensures.made c.in_ok-digraph.digraph.edges (ap (λ g. g.edges) c.in_ok-digraph.ensures)

pub returns-clause-pairs : goal.returns-clause-pairs
returns-clause-pairs c = all_pairs c.args.numbers.graph.now c.facts.ensures c.in_ok-made.made c.in_ok-made.ensures.made c.in_ok-digraph.digraph.edges (ap (λ g. g.edges) c.in_ok-digraph.ensures)

pub returns-clause-edges : goal.returns-clause-edges
returns-clause-edges c =
    let t = c.args.numbers.graph.now in
    let made = c.in_ok-made.made in
    let ends = c.in_ok-digraph.digraph.edges in
    all_built t c.facts.ensures made c.in_ok-made.ensures.made ends (ap (λ g. g.edges) c.in_ok-digraph.ensures)

pub from_columns-requires : goal.from_columns-requires
from_columns-requires c =
    let t = c.args.numbers.graph.now in
    let ends = c.in_ok-made.made.ends in
    let sound = pairs_sound t ends (all_pairs t c.facts.ensures c.in_ok-made.made c.in_ok-made.ensures.made ends refl) in
    let count : c.len.result ≡ length c.args.table.now.packages.items = search rules in
    let nodes : length (node_packages t) ≡ c.len.result = sym (count ∙ ap length c.requires.packages) in
    record { sound = subst (λ z. IsDigraph (record { nodes = z; edges = ends })) nodes sound }
