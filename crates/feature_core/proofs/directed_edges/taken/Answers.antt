use Rattle.std.proofs.Common.{◌∙◌, ℕ, Option, Some, ap}
use Rattle.walk_engine.specs.declared.walks.Ask.{Ask}
use Rattle.walk_engine.specs.declared.walks.Taken.{Taken}
use Rattle.feature_edges.specs.feature_links.Facts.{EdgeFacts}
use Rattle.feature_edges.specs.feature_links.Values.{edge_facts}
use Rattle.feature_core.specs.Ways.{asked}
use Rattle.feature_core.proofs.DirectedLemmas.{told_of}
use Rattle.feature_core.proofs.directed_edges.taken.Goals as goal

pub returns : goal.returns
returns c = λ weak.
    let g = c.args.digraph.now in
    let k = c.args.edge in
    let said : EdgeFacts = edge_facts c.get.result.now in
    let far : ℕ → Option Taken = λ x. Some (record { edge = k; far = x; ask = asked c.args.direction said }) in
    let ask : Ask → Option Taken = λ x. Some (record { edge = k; far = c.far_end.result; ask = x }) in
    ap ask c.offers_of.ensures ∙ ap far c.far_end.ensures
    ∙ told_of weak c.args.direction g.nodes g.edges c.args.edges.now k c.edge.result said c.edge.ensures c.get.ensures
