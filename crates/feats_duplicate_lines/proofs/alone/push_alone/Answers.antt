use Rattle.std.proofs.Common.{map}
use Rattle.cargo_workspaces.specs.Views.{package_text, texts}
use Rattle.feats_duplicates.specs.Views.{alone_text}
use Rattle.feats_duplicates.specs.DisagreementViews.{disagreement_text}
use Rattle.feats_duplicate_lines.specs.Shown.{alone_of}
use Rattle.feats_duplicate_lines.proofs.Lists.{flat_more}
use Rattle.feats_duplicate_lines.proofs.alone.push_alone.Goals as goal

pub loop-alone-preserved : goal.loop-alone-preserved
loop-alone-preserved c =
    let f = alone_of (texts c.args.names.now) (map package_text c.args.packages.now) (map disagreement_text c.args.disagreements.now) in
    flat_more alone_text f c.args.list.now c.loop-alone.alone-index c.alone-item.result _ _ _ c.loop-alone-test.true c.alone-item.is c.loop-alone.invariant c.in_ok-push_one.ensures
