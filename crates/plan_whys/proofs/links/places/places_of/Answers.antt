use Rattle.std.proofs.Common.{arith}
use Rattle.std.proofs.lemmas.Option.{slice_get-get_or}
use Rattle.plan_whys.proofs.Tables.{next_noted}
use Rattle.plan_whys.proofs.links.places.places_of.Goals as goal

pub loop-index-preserved : goal.loop-index-preserved
loop-index-preserved c =
    next_noted c.args.size c.args.numbers.now c.loop-index.index _ c.loop-index.places.items c.note.new.places.items
    (slice_get-get_or c.args.numbers.now c.loop-index.index 0 (omega (arith, c.loop-index-test.true))) c.loop-index.invariant c.note.ensures
