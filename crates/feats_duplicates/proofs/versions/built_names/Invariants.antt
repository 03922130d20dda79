use Rattle.std.proofs.Common.{◌≡◌, ◌++◌, ◌&&◌, ◌∷◌, [], ℕ, map, drop}
use Rattle.std.specs.Prelude.{if◌then◌else◌}
use Rattle.std.specs.Str.{bytes_eq}
use Rattle.cargo_workspaces.specs.Views.{package_text}
use Rattle.cargo_workspaces.specs.Workspaces.{Text, PackageText}
use Rattle.cargo_plans.specs.plan_starts.Lists.{joined_from}
use Rattle.cargo_plans.specs.plan_units.UnitViews.{unit_text}
use Rattle.feats_duplicates.specs.Built.{is_built}
use Rattle.feats_duplicates.specs.Versions.{built_with_name}
use Rattle.feats_duplicates.specs.inner.Groups.{named}
use Rattle.feats_duplicates.proofs.versions.built_names.Given as goal

abbrev pub invariant-loop-ix : goal.invariant-loop-ix
invariant-loop-ix l =
    (q : Text) → built_with_name (map package_text l.packages) (map unit_text l.units) q
    ≡ named l.names q ++ joined_from (λ (p : ℕ) (x : PackageText). if is_built (map unit_text l.units) p && bytes_eq q x.name then p ∷ [] else []) l.ix (map package_text (drop l.ix l.packages))
