use Rattle.std.proofs.Common.{length, ◌<◌, arith}
use Rattle.std.proofs.lemmas.Option.{slice_get-get_or}
use Rattle.plan_rows.specs.platforms.HeldSpecs.{holds_on}
use Rattle.plan_rows.proofs.HoldingLemmas.{fault_at}
use Rattle.plan_rows.proofs.platforms.holding.held_specs.Goals as goal

pub returns-in-Err-clause-fault : goal.returns-in-Err-clause-fault
returns-in-Err-clause-fault c =
    let specs = c.args.specs.now in
    let i = c.loop-declared.declared-index in
    let below : i < length specs = omega arith in
    fault_at c.args.target.now specs (holds_on c.loop-declared.held) i _ c.in-Err.fault (slice_get-get_or specs i _ below) c.loop-declared.invariant.all c.in-Err.ensures.fault
