use Rattle.std.proofs.Common.{rules, ◌≡◌, ◌+◌, ◌*◌, ◌∙◌, ◌++◌, ◌∷◌, [], ap}
use Rattle.std.specs.Int.{from_bool}
use Rattle.digraphs.specs.inner.EdgeColumns.{edges_in}
use Rattle.digraphs.proofs.ColumnLemmas.{edges_in_more, one_edge}
use Rattle.digraphs.proofs.digraph.columns.EdgeColumns.push.Goals as goal

pub returns-clause-pushed : goal.returns-clause-pushed
returns-clause-pushed c =
    let ss = c.self.inside.sources.items in
    let es = c.self.inside.ends.items in
    let e = c.args.edge in
    let end = 2 * e.to + from_bool e.non_dev in
    let sources : c.push.new.self.items ≡ ss ++ e.from ∷ [] = c.in_ok-push.ensures.items in
    let ends : c.push-2.new.self.items ≡ es ++ end ∷ [] = search rules in
    rw (sources, ends)
    (edges_in_more ss es e.from end c.self.invariant ∙ ap (λ z. edges_in ss es ++ z ∷ []) (one_edge e.from e.to e.non_dev) ∙ ap (λ z. z ++ e ∷ []) c.self.view_is)
