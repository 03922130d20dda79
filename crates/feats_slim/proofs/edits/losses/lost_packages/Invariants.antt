use Rattle.std.proofs.Common.{◌≡◌, ◌++◌, ◌∷◌, [], ℕ, List, map, drop}
use Rattle.std.specs.Prelude.{if◌then◌else◌}
use Rattle.cargo_workspaces.specs.Views.{package_text}
use Rattle.cargo_workspaces.specs.Workspaces.{PackageText}
use Rattle.plan_starts.specs.Lists.{joined_from}
use Rattle.cargo_plans.specs.plan_units.Units.{UnitText}
use Rattle.feats_slim.specs.edits.Losses.{is_lost, lost_packages}
use Rattle.feats_slim.specs.edits.inner.Groups.{HasPlaces}
use Rattle.feats_slim.proofs.edits.losses.lost_packages.Given as goal

abbrev pub invariant-loop-ix : goal.invariant-loop-ix
invariant-loop-ix l =
    (b a : List UnitText) → HasPlaces l.before b → HasPlaces l.after a
    → lost_packages b a (map package_text l.packages)
    ≡ l.lost.items ++ joined_from (λ (p : ℕ) (x : PackageText). if is_lost b a p then p ∷ [] else []) l.ix (map package_text (drop l.ix l.packages))
