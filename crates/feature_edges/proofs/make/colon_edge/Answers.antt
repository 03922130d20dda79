use Rattle.std.proofs.Common.{◌∙◌, sym, inl, refl, []}
use Rattle.feature_edges.specs.Candidates.{dep_colon}
use Rattle.feature_links.specs.Facts as edges
use Rattle.feature_edges.proofs.PairLemmas.{names_differ}
use Rattle.feature_edges.proofs.KeySays.{SaysColon}
use Rattle.feature_edges.proofs.KeyEdges.{told_colon, value_over}
use Rattle.feature_links.specs.Values.{link_facts}
use Rattle.feature_links.specs.Facts.{colon_edge}
use Rattle.feature_edges.proofs.make.colon_edge.Goals as goal

pub link_to-requires-clause-named : goal.link_to-requires-clause-named
link_to-requires-clause-named c =
    let t = c.args.material.numbers.graph.now in
    let s = (told_colon t (names_differ t c.facts.ensures) [] c.args.key c.requires.of_tables c.requires.kind).tells in
    (s.p, s.d, inl s.to_node)

pub returns : goal.returns
returns c weak =
    let t = c.args.material.numbers.graph.now in
    let x = c.args.key in
    let o = told_colon t (names_differ t c.facts.ensures) weak x c.requires.of_tables c.requires.kind in
    let s = o.tells in
    value_over t weak x dep_colon edges.colon_edge (SaysColon t x) (λ l. refl) o (link_facts c.in_ok-link.link) (c.in_ok-link.ensures s.p s.d (inl s.to_node) ∙ sym s.is)
