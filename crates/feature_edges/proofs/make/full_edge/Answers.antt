use Rattle.std.proofs.Common.{◌∙◌, sym, refl, []}
use Rattle.feature_edges.specs.Candidates.{slash_full}
use Rattle.feature_links.specs.Facts.{strong_edge}
use Rattle.feature_edges.proofs.PairLemmas.{names_differ}
use Rattle.feature_edges.proofs.KeySays.{SaysOver}
use Rattle.feature_edges.proofs.KeyEdges.{told_full, value_over}
use Rattle.feature_edges.proofs.MaterialLemmas.{link_within}
use Rattle.feature_links.specs.Values.{link_facts}
use Rattle.feature_edges.proofs.make.full_edge.Goals as goal

pub link_of-requires : goal.link_of-requires
link_of-requires c =
    let t = c.args.material.numbers.graph.now in
    let s = (told_full t (names_differ t c.facts.ensures) [] c.args.key c.requires.of_tables c.requires.kind).tells in
    link_within t c.args.key.source s.link s.is_link

pub returns : goal.returns
returns c weak =
    let t = c.args.material.numbers.graph.now in
    let x = c.args.key in
    let o = told_full t (names_differ t c.facts.ensures) weak x c.requires.of_tables c.requires.kind in
    let s = o.tells in
    value_over t weak x slash_full strong_edge (SaysOver t x) (λ l. refl) o (link_facts c.in_ok-link.link) (c.in_ok-link.ensures s.link s.is_link ∙ sym s.is)
