use Rattle.std.proofs.Common.{[]}
use Rattle.feature_edges.proofs.KeyEdges.{told_section}
use Rattle.feature_edges.proofs.MaterialLemmas.{link_within}
use Rattle.feature_edges.proofs.PairLemmas.{names_differ}
use Rattle.feature_edges.proofs.alike_keys.shares_declaration.Goals as goal

pub is_single-requires : goal.is_single-requires
is_single-requires c =
    let t = c.args.numbers.graph.now in
    let s = (told_section t (names_differ t c.facts.ensures) [] c.args.key c.requires.of_tables c.requires.kind).tells in
    link_within t c.args.key.source s.link s.is_link
