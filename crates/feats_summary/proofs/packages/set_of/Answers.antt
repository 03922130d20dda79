use Rattle.std.proofs.Common.{◌∙◌, arith, refl}
use Rattle.feats_summary.proofs.Entries.{inserted_next}
use Rattle.feats_summary.proofs.packages.set_of.Goals as goal

pub loop-name-preserved : goal.loop-name-preserved
loop-name-preserved c =
    c.loop-name.invariant
    ∙ inserted_next c.args.names.now c.loop-name.name-index _ _ c.loop-name.set.keys _ (omega (arith, c.loop-name-test.true)) refl c.in_ok-_is_new.ensures.keys
