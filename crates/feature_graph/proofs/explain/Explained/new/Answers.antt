use Rattle.std.proofs.Common.{sym, subst}
use Rattle.std.specs.Prelude.{All, IsTrue}
use Rattle.std.specs.Option.{is_some}
use Rattle.feature_graph.specs.Explained.{IsBacked}
use Rattle.feature_graph.specs.Told.{step_told}
use Rattle.feature_graph.specs.Views.{graph_of}
use Rattle.feature_graph.proofs.ToldLemmas.{backed_told}
use Rattle.feature_graph.proofs.explain.Explained.new.Goals as goal

pub told_steps-requires : goal.told_steps-requires
told_steps-requires c =
    let g = c.graph-graph.result.now in
    let b = g.built.now in
    let backed = subst (λ z. IsBacked z c.args.direction c.args.numbers.items) (sym c.graph-graph.ensures.value) c.requires.backed in
    subst (λ l. All (λ step. IsTrue (is_some (step_told (graph_of g) step))) l) (sym c.deref.ensures.value)
    (backed_told (graph_of g) g.is_built c.offers_are_links.ensures (c.content_of_graph.ensures.count b g.is_built) (λ d. c.content_of_graph.ensures.ends b d g.is_built) c.args.direction c.args.numbers.items backed)
