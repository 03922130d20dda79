use Rattle.std.proofs.Common.{◌∙◌, sym, refl, []}
use Rattle.feature_edges.specs.Candidates.{slash_optional}
use Rattle.feature_links.specs.Facts.{strong_edge}
use Rattle.feature_edges.proofs.PairLemmas.{names_differ}
use Rattle.feature_edges.proofs.KeySays.{SaysBeside}
use Rattle.feature_edges.proofs.KeyEdges.{told_beside, value_over}
use Rattle.feature_links.specs.Values.{link_facts}
use Rattle.feature_edges.proofs.make.beside_edge.Goals as goal

pub link_to-requires-clause-named : goal.link_to-requires-clause-named
link_to-requires-clause-named c =
    let t = c.args.material.numbers.graph.now in
    let s = (told_beside t (names_differ t c.facts.ensures) [] c.args.key c.requires.of_tables c.requires.kind).tells in
    (s.p, s.d, s.to_node)

pub returns : goal.returns
returns c weak =
    let t = c.args.material.numbers.graph.now in
    let x = c.args.key in
    let o = told_beside t (names_differ t c.facts.ensures) weak x c.requires.of_tables c.requires.kind in
    let s = o.tells in
    value_over t weak x slash_optional strong_edge (SaysBeside t x) (λ l. refl) o (link_facts c.in_ok-link.link) (c.in_ok-link.ensures s.p s.d s.to_node ∙ sym s.is)
