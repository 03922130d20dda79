use Rattle.std.proofs.Common.{ℕ, List, map, length, ◌<◌, arith}
use Rattle.std.specs.Borrow.{Bor}
use Rattle.std.proofs.lemmas.Option.{slice_get-get_or}
use Rattle.guppy_features.proofs.Held.{fault_at}
use Rattle.guppy_features.proofs.graph_platforms.held_texts.held_among.Goals as goal

pub returns-in-Err-clause-fault : goal.returns-in-Err-clause-fault
returns-in-Err-clause-fault c =
    let texts = c.args.texts.now in
    let i = c.loop-text.text-index in
    let below : i < length texts = omega arith in
    fault_at c.args.target.now texts (map (λ (t : Bor (List ℕ)). t.now) c.loop-text.held.items) i _ c.in-Err.fault (slice_get-get_or texts i _ below) c.loop-text.invariant c.in-Err.ensures.fault
