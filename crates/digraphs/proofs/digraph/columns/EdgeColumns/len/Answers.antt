use Rattle.std.proofs.Common.{rules, ◌≡◌, ◌∙◌, sym, ap, length}
use Rattle.digraphs.proofs.ColumnLemmas.{length_edges_in}
use Rattle.digraphs.proofs.digraph.columns.EdgeColumns.len.Goals as goal

pub returns : goal.returns
returns c =
    let long : c.len.result ≡ length c.self.inside.sources.items = search rules in
    long ∙ sym (length_edges_in c.self.inside.sources.items c.self.inside.ends.items c.self.invariant) ∙ ap length c.self.view_is
