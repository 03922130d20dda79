use Rattle.std.proofs.Common.{subst}
use Rattle.feats_duplicates.specs.inner.Sets.{HasTexts}
use Rattle.feats_duplicates.proofs.Sets.{texts_more}
use Rattle.feats_duplicates.proofs.features.insert_all.Goals as goal

pub loop-feature-preserved : goal.loop-feature-preserved
loop-feature-preserved c = λ names has.
    subst (HasTexts c.insert_one.new.set) (texts_more names c.args.features.now c.loop-feature.feature-index _ c.loop-feature-test.true)
    (c.in_ok-insert_one.ensures _ (c.loop-feature.invariant names has))
