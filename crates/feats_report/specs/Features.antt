-- The features of the packages that are built.
use Rattle.std.specs.Prelude.{ℕ, List, [], Bool, ◌||◌, if◌then◌else◌}
use Rattle.feature_labels.specs.Names.{LabelName}
use Rattle.cargo_workspaces.specs.Workspaces.{Text, PackageText}
use Rattle.cargo_plans.specs.built_parts.Built.{is_built, is_part_built}
use Rattle.cargo_plans.specs.plan_starts.Lists.{joined_from}
use Rattle.cargo_plans.specs.plan_steps.Plans.{PlanText}
use Rattle.plan_rows.specs.declared.side.Side.{Side}
use Rattle.plan_rows.specs.declared.side.Side.TheVariants.{Target, Host}
use Rattle.feats_list.specs.features.Objects.{feature_objects}

-- Whether package `p` is built on one of the sides. `builds side p` is whether it is built on a side.
abbrev pub is_anywhere : (Side → ℕ → Bool) → ℕ → Bool
is_anywhere builds p = builds Target p || builds Host p

-- The lines of package `p`, if it is built. `built side p label` is whether a part of it is built on a side.
abbrev pub package_lines : (Side → ℕ → Bool) → (Side → ℕ → LabelName → Bool) → ℕ → PackageText → Text
package_lines builds built p x = if is_anywhere builds p then feature_objects built p x else []

-- The lines of all packages, in the order of their numbers.
abbrev pub features_of : (Side → ℕ → Bool) → (Side → ℕ → LabelName → Bool) → List PackageText → Text
features_of builds built packages = joined_from (package_lines builds built) 0 packages

-- The lines of the packages that the plan builds.
abbrev pub built_features : Bool → List PackageText → PlanText → Text
built_features split packages plan = features_of (is_built split plan.units) (is_part_built split plan) packages
