use Rattle.std.proofs.Common.{◌∙◌, ◌++◌, ◌∷◌, [], ap, get_or, map, refl}
use Rattle.std.proofs.lemmas.List.{map-append}
use Rattle.feature_core.specs.Nodes.{nodes}
use Rattle.feature_labels.specs.Names.{id_of}
use Rattle.feature_graph.specs.Views.{tables_of_graph}
use Rattle.feature_graph.proofs.OrderedLemmas.{names_more}
use Rattle.feature_graph.proofs.cycles.ids_of.Goals as goal

pub numbers-preserved : goal.numbers-preserved
numbers-preserved c =
    let numbers = c.args.numbers.now in
    let i = c.numbers.number-index in
    ap (map id_of) c.in_ok-push.ensures.items
    ∙ map-append id_of c.numbers.ids.items (c.id.result ∷ [])
    ∙ ap (λ l. l ++ id_of c.id.result ∷ []) c.numbers.invariant
    ∙ names_more (nodes (tables_of_graph c.args.graph)) numbers i (get_or numbers i 0) 0 (id_of c.id.result) c.numbers-test.true refl c.id.ensures
