use Rattle.std.proofs.Common.{rules, arith, map}
use Rattle.std.proofs.lemmas.List.{length-map}
use Rattle.feature_labels.specs.Names.{id_of}
use Rattle.feature_graph.specs.Views.{tables_of_graph}
use Rattle.feature_graph.proofs.SetLemmas.{known_more, all_known, name_at}
use Rattle.feature_graph.proofs.graph.ids.first_unknown.Goals as goal

pub known-preserved : goal.known-preserved
known-preserved c =
    let ids = c.args.ids.now in
    let at = name_at ids c.known.id-index c.id-item.result c.known-test.true c.id-item.is in
    known_more (tables_of_graph c.args.graph) (map id_of ids) c.known.id-index (id_of c.id-item.result) at c.known.invariant (c.contains.ensures.0 (search rules))

pub returns : goal.returns
returns c =
    let ids = c.args.ids.now in
    all_known (tables_of_graph c.args.graph) (map id_of ids) c.known.id-index (omega (arith, length-map ids id_of)) c.known.invariant
