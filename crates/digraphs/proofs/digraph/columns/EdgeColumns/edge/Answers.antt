use Rattle.std.proofs.Common.{rules, ◌≡◌, ◌<◌, ap, length, get_or, arith, vec_len}
use Rattle.std.proofs.lemmas.List.{get_or_read}
use Rattle.digraphs.proofs.ColumnLemmas.{length_edges_in, edge_in_columns}
use Rattle.digraphs.proofs.digraph.columns.EdgeColumns.edge.Goals as goal

pub index-requires : goal.index-requires
index-requires c =
    let v : vec_len c.self.inside.ends ≡ length c.self.inside.ends.items = search rules in
    omega (arith, v, c.requires, c.self.invariant, ap length c.self.view_is, length_edges_in c.self.inside.sources.items c.self.inside.ends.items c.self.invariant)

pub index-requires-2 : goal.index-requires-2
index-requires-2 c =
    let v : vec_len c.self.inside.sources ≡ length c.self.inside.sources.items = search rules in
    omega (arith, v, c.requires, ap length c.self.view_is, length_edges_in c.self.inside.sources.items c.self.inside.ends.items c.self.invariant)

pub returns : goal.returns
returns c =
    let ss = c.self.inside.sources.items in
    let es = c.self.inside.ends.items in
    let k = c.args.number in
    let inside : k < length ss = omega (arith, c.requires, ap length c.self.view_is, length_edges_in ss es c.self.invariant) in
    let from : c.index-2.result.now ≡ get_or ss k 0 = get_or_read ss k c.index-2.result.now inside c.index-2.ensures 0 in
    let end : c.index.result.now ≡ get_or es k 0 = get_or_read es k c.index.result.now (omega (arith, inside, c.self.invariant)) c.index.ensures 0 in
    rw (← c.self.view_is, from, end) (edge_in_columns ss es k c.self.invariant inside)
