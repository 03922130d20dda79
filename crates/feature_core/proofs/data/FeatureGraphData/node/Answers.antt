use Rattle.std.proofs.Common.{◌≡◌, Option, Some, ℕ}
use Rattle.feature_edges.specs.feature_labels.Names.{label_of, id_of}
use Rattle.feature_core.proofs.NameLemmas.{numbered_name, no_number}
use Rattle.feature_core.proofs.data.FeatureGraphData.node.Goals as goal

pub returns-in-Ok : goal.returns-in-Ok
returns-in-Ok c n =
    let id = id_of c.args.id in
    numbered_name c.args.graph.now c.numbers_in.result.graph.now id.0 c.package_id.result.now c.in-Ok.metadata.package_ix n id.1 (label_of c.label.result) (◌≡◌ {A = Option ℕ} c.number_of.result (Some n)) c.numbers_in.ensures c.package_id.ensures c.label.ensures c.facts.ensures c.in-Ok.ensures.found.1 (c.number_of.ensures n)

pub returns-in-Err : goal.returns-in-Err
returns-in-Err c n =
    let id = id_of c.args.id in
    no_number c.args.graph.now id.0 c.package_id.result.now n id.1 c.package_id.ensures c.in-Err.ensures.found
