-- The builds that are compared.
use Rattle.std.specs.Prelude.{ℕ, List, [], ◌∷◌, slice_get}
use Rattle.std.specs.Option.{option_map_or}
use Rattle.cargo_plans.specs.Plans.{WordsText}
use Rattle.cargo_workspaces.specs.Workspaces.{Text, PackageText, WorkspaceText}
use Rattle.feats_answers.specs.PlanTexts.{place_name}
use Rattle.feats_diff.specs.changes.Parts.{PartText}
use Rattle.feats_diff.specs.changes.Ranks.{rank_of}
use Rattle.cargo_plans.specs.plan_starts.Lists.{joined_from}
use Rattle.cargo_plans.specs.plan_steps.Plans.{PlanText}
use Rattle.cargo_plans.specs.plan_units.Units.{UnitText}

-- A build of a workspace: the names of the places of its target platforms, what the command line says, and the plan for it.
pub record BuildText : Type 0 where
  pub targets : List Text
  pub workspace : WorkspaceText
  pub words : WordsText
  pub plan : PlanText

-- Unit `k` of the plan, which is this package.
abbrev pub part_at : List Text → ℕ → UnitText → PackageText → PartText
part_at targets k u p = record { unit = k; place = place_name targets u.place; described = p; features = u.features; rank = rank_of p.version }

-- Unit `k` of the plan. Its number is that of a package.
abbrev pub part_of : List Text → List PackageText → ℕ → UnitText → List PartText
part_of targets packages k u = option_map_or (λ p. part_at targets k u p ∷ []) (slice_get packages u.number) []

-- The units of the plan, from number `k` on.
abbrev pub parts_from : List Text → List PackageText → ℕ → List UnitText → List PartText
parts_from targets packages k units = joined_from (part_of targets packages) k units

abbrev pub parts_of : BuildText → List PartText
parts_of b = parts_from b.targets b.workspace.packages 0 b.plan.units
