use Rattle.std.proofs.Common.{arith, ◌∙◌, map}
use Rattle.std.proofs.lemmas.List.{length-map}
use Rattle.feature_labels.specs.Names.{id_of}
use Rattle.feature_graph.specs.Views.{tables_of_graph}
use Rattle.feature_graph.proofs.SetLemmas.{among_more, among_all, name_at}
use Rattle.feature_graph.proofs.graph.ids.set_of_ids.Goals as goal

pub ids-preserved : goal.ids-preserved
ids-preserved c =
    let ids = c.args.ids.now in
    let at = name_at ids c.ids.id-index c.id-item.result c.ids-test.true c.id-item.is in
    record {
      size = c.insert_id.ensures.size ∙ c.ids.invariant.size;
      exact = among_more (tables_of_graph c.args.graph) (map id_of ids) c.ids.id-index c.ids.members c.insert_id.new.members (id_of c.id-item.result) at c.ids.invariant.exact c.insert_id.ensures.members;
    }

pub returns : goal.returns
returns c =
    let ids = c.args.ids.now in
    among_all (tables_of_graph c.args.graph) (map id_of ids) c.ids.id-index c.ids.members (omega (arith, length-map ids id_of)) c.ids.invariant.size c.ids.invariant.exact
