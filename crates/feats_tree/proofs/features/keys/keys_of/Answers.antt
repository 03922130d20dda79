use Rattle.std.proofs.Common.{arith}
use Rattle.feature_labels.specs.declared.feature_label.FeatureLabel.TheVariants.{Base}
use Rattle.plan_rows.specs.declared.side.Side.TheVariants.{Target}
use Rattle.feats_tree.proofs.KeyLemmas.{keys_more}
use Rattle.feats_tree.proofs.features.keys.keys_of.Goals as goal

pub loop-spot-preserved : goal.loop-spot-preserved
loop-spot-preserved c = λ s.
    keys_more c.args.spots.now c.loop-spot.spot-index (record { side = Target; «package» = 0; label = Base }) s _ _ (omega (arith, c.loop-spot-test.true)) (c.in_ok-insert.ensures s) (c.loop-spot.invariant s)
