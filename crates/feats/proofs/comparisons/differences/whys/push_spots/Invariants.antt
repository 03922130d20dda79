use Rattle.std.proofs.Common.{◌≡◌, ◌++◌, map, drop}
use Rattle.cargo_workspaces.specs.Views.{texts}
use Rattle.feature_labels.specs.Names.LabelName.{named}
use Rattle.feats.specs.comparisons.differences.Views.{build_text}
use Rattle.feats.specs.comparisons.differences.Whys.{spot_of}
use Rattle.feats_diff.specs.changes.Views.{part_text}
use Rattle.plan_whys.specs.StepViews.{spot_text}
use Rattle.feats.proofs.comparisons.differences.whys.push_spots.Given as goal

abbrev pub invariant-loop-name : goal.invariant-loop-name
invariant-loop-name l =
    map spot_text l.initial.spots.items ++ map (λ name. spot_of (build_text l.build) (part_text l.change.new) (named name)) (texts l.change.comes.items)
    ≡ map spot_text l.spots.items ++ map (λ name. spot_of (build_text l.build) (part_text l.change.new) (named name)) (texts (drop l.name-index l.change.comes.items))
