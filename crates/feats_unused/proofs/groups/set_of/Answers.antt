use Rattle.std.proofs.Common.{subst}
use Rattle.feats_unused.specs.inner.Groups.{HasTexts}
use Rattle.feats_unused.proofs.Lists.{texts_more}
use Rattle.feats_unused.proofs.groups.set_of.Goals as goal

pub loop-name-preserved : goal.loop-name-preserved
loop-name-preserved c =
    subst (HasTexts c.insert_one.new.set) (texts_more c.args.names.now c.loop-name.name-index _ c.loop-name-test.true) (c.in_ok-insert_one.ensures _ c.loop-name.invariant)
