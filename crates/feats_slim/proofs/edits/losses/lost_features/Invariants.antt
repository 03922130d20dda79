use Rattle.std.proofs.Common.{◌≡◌, ◌++◌, ℕ, List, map, drop}
use Rattle.cargo_workspaces.specs.Views.{package_text}
use Rattle.cargo_workspaces.specs.Workspaces.{PackageText}
use Rattle.plan_starts.specs.Lists.{joined_from}
use Rattle.cargo_plans.specs.plan_units.Units.{UnitText}
use Rattle.feats_slim.specs.edits.Losses.{lost_among, lost_features}
use Rattle.feats_slim.specs.edits.LossViews.{lost_feature_text}
use Rattle.feats_slim.specs.edits.inner.Groups.{HasPlaces}
use Rattle.feats_slim.proofs.edits.losses.lost_features.Given as goal

abbrev pub invariant-loop-ix : goal.invariant-loop-ix
invariant-loop-ix l =
    (b a : List UnitText) → HasPlaces l.before b → HasPlaces l.after a
    → lost_features b a (map package_text l.packages)
    ≡ map lost_feature_text l.lost.items ++ joined_from (λ (p : ℕ) (x : PackageText). lost_among b a p x.features) l.ix (map package_text (drop l.ix l.packages))
