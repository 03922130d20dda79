use Rattle.std.proofs.Common.{refl, get_or}
use Rattle.plan_rows.specs.platforms.HeldSpecs.{holds_on}
use Rattle.plan_rows.proofs.EveryLemmas.{every_more}
use Rattle.plan_rows.proofs.platforms.holding.every_spec.Goals as goal

pub loop-declared-preserved : goal.loop-declared-preserved
loop-declared-preserved c = λ text.
    let i = c.loop-declared.declared-index in
    every_more c.args.specs.now i (get_or c.args.specs.now i _) _ _ (holds_on c.loop-declared.held) (holds_on c.keep.new.held) text c.loop-declared-test.true refl
    (c.loop-declared.invariant text) (c.in_ok-keep.ensures (record { ref_ptr = (0, 0); now = text }))
