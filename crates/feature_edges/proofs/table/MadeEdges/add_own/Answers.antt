use Rattle.std.proofs.Common.{ap, refl, Some}
use Rattle.std.proofs.lemmas.Result.{on_ok_weaker}
use Rattle.feature_edges.proofs.AlikeLemmas.{added_made, last_own}
use Rattle.feature_edges.proofs.table.MadeEdges.add_own.Goals as goal

pub returns : goal.returns
returns c = on_ok_weaker c.make.result (λ added done h.
    let t = c.args.material.numbers.graph.now in
    let noted = c.in_ok-note_gate.ensures in
    added_made t done c.args.key c.args.self.now _ c.make.new.self noted.grown.0
    (noted.links done h.links)
    (noted.gates h.gates)
    noted.grown.1
    refl refl
    added
    (last_own t c.args.key _ c.make.new.self c.requires.of_tables added noted.noted (ap (λ z. Some (c.args.key, z)) c.len.ensures))
    h) c.make.ensures
