use Rattle.std.proofs.Common.{◌≡◌, ◌++◌, List, map, drop}
use Rattle.cargo_workspaces.specs.Views.{feature_text}
use Rattle.cargo_plans.specs.plan_units.Units.{UnitText}
use Rattle.feats_slim.specs.edits.Losses.{lost_among}
use Rattle.feats_slim.specs.edits.LossViews.{lost_feature_text}
use Rattle.feats_slim.specs.edits.inner.Groups.{HasPlaces}
use Rattle.feats_slim.proofs.edits.losses.push_features.Given as goal

abbrev pub invariant-loop-feature : goal.invariant-loop-feature
invariant-loop-feature l =
    (b a : List UnitText) → HasPlaces l.before b → HasPlaces l.after a
    → map lost_feature_text l.initial.lost.items ++ lost_among b a l.«package» (map feature_text l.features)
    ≡ map lost_feature_text l.lost.items ++ lost_among b a l.«package» (map feature_text (drop l.feature-index l.features))
