-- Plans: what the visits of the three steps show.
use Rattle.std.specs.Prelude.{◌≡◌, ℕ, List, Bool, Option, Some, None, length, if◌then◌else◌}
use Rattle.plan_starts.specs.feature_labels.Names.{LabelName}
use Rattle.plan_starts.specs.feature_labels.Names.LabelName.{optional}
use Rattle.cargo_workspaces.specs.Workspaces.{Text, WorkspaceText}
use Rattle.plan_rows.specs.Steps.{SettingsText, resolved_entries, on_entries, built_entries}
use Rattle.plan_rows.specs.Tables.{flag_at, rows_of}
use Rattle.plan_rows.specs.declared.side.Side.{Side}
use Rattle.plan_starts.specs.step_visits.Visits.{Visit, IsVisitOf}
use Rattle.plan_starts.specs.PackageVisits.{PairVisit, is_kept, is_on}
use Rattle.plan_starts.specs.Starts as starts
use Rattle.plan_starts.specs.Starts.{Starts, dev_flags, start_places, first_missing, first_without_tests}
use Rattle.plan_starts.specs.UnfitWords.{first_unfit}
use Rattle.cargo_plans.specs.plan_units.Commands.{resolved_starts, on_starts}
use Rattle.cargo_plans.specs.plan_units.Lacking as lacking
use Rattle.cargo_plans.specs.plan_units.Units.{UnitText, units_of}

-- A visit of step `resolved`.
unfoldable pub IsResolved : WorkspaceText → SettingsText → PairVisit → Type 0
IsResolved w s kept = (kept.count ≡ length w.packages) × IsVisitOf (rows_of (resolved_entries w s)) (resolved_starts w s) kept.visit

-- A visit of step `on`, where `kept` is the visit of step `resolved`.
unfoldable pub IsOn : WorkspaceText → SettingsText → PairVisit → PairVisit → Type 0
IsOn w s kept on = (on.count ≡ length w.packages) × IsVisitOf (rows_of (on_entries w s (is_kept kept))) (on_starts w s) on.visit

-- Whether the optional dependency `name` of package `p` is on, on a side.
abbrev pub turned_on : PairVisit → Side → ℕ → Text → Bool
turned_on on side p name = is_on on side p (optional name)

-- A visit of step `built`, where `on` is the visit of step `on`.
unfoldable pub IsBuiltFrom : WorkspaceText → SettingsText → PairVisit → Starts → Visit → Type 0
IsBuiltFrom w s on from built =
    IsVisitOf (rows_of (built_entries w s (turned_on on) (flag_at (dev_flags (length s.targets) from)))) (start_places (length s.targets) from) built

-- The entries at which step `built` starts.
unfoldable pub starts_by : WorkspaceText → SettingsText → List ℕ → PairVisit → PairVisit → Starts
starts_by w s selected kept on = starts.starts_of (record { settings = s; packages = w.packages; kept = kept; on = on }) selected

-- For `cargo test`, the first selected package whose tests can't be built.
unfoldable pub without_tests : WorkspaceText → SettingsText → List ℕ → Option ℕ
without_tests w s selected = if s.choice.test then first_without_tests w selected else None

-- The first word for targets that chooses none of the selected packages.
unfoldable pub without_targets : WorkspaceText → SettingsText → List ℕ → Option (Text × Option Text)
without_targets w s selected = first_unfit w.packages selected s.choice

-- The first package that starts on a side where it isn't on.
unfoldable pub not_on : WorkspaceText → SettingsText → PairVisit → Starts → Option (ℕ × Side)
not_on w s on from = first_missing s.split on from w.packages

-- The first package that lacks an optional dependency which is asked for, with its name.
unfoldable pub lacks : WorkspaceText → SettingsText → PairVisit → Option (ℕ × Text)
lacks w s on = lacking.first_lacking on s.commands w.packages

-- Each target that is chosen by its name can be built, all that starts is on, and nothing is lacking.
abbrev pub IsComplete : WorkspaceText → SettingsText → PairVisit → Starts → Type 0
IsComplete w s on from = (from.unmet ≡ None) × (not_on w s on from ≡ None) × (lacks w s on ≡ None)

-- The tests of the selected packages can be built, each word for targets chooses one, and visits of the first two steps have the property.
pub record AfterSteps (w : WorkspaceText) (s : SettingsText) (selected : List ℕ) (P : PairVisit → PairVisit → Type 0) : Type 0 where
  pub have_tests : without_tests w s selected ≡ None
  pub have_targets : without_targets w s selected ≡ None
  pub kept : PairVisit
  pub on : PairVisit
  pub is_resolved : IsResolved w s kept
  pub is_turned_on : IsOn w s kept on
  pub holds : P kept on

-- What a plan contains: the packages that are built, the visits of steps `on` and `built`, and the places at which step `built` starts.
pub record PlanText : Type 0 where
  pub units : List UnitText
  pub on : PairVisit
  pub built : Visit
  pub starts : List (ℕ × LabelName)

-- The packages of the plan are those that are built from `from`.
pub record AreBuilt (w : WorkspaceText) (s : SettingsText) (on : PairVisit) (from : Starts) (plan : PlanText) : Type 0 where
  pub are_starts : plan.starts ≡ start_places (length s.targets) from
  pub is_built : IsBuiltFrom w s on from plan.built
  pub are_units : plan.units ≡ units_of s.split on plan.built w.packages (length s.targets)

-- A PLAN of the selected packages.
abbrev pub IsPlan : WorkspaceText → SettingsText → List ℕ → PlanText → Type 0
IsPlan w s selected plan =
    AfterSteps w s selected (λ kept on. (plan.on ≡ on) × IsComplete w s on (starts_by w s selected kept on) × AreBuilt w s on (starts_by w s selected kept on) plan)

-- The tests of package `p` can't be built.
abbrev pub HasNoTests : WorkspaceText → SettingsText → List ℕ → ℕ → Type 0
HasNoTests w s selected p = without_tests w s selected ≡ Some p

-- The tests can be built, and this word for targets chooses none.
abbrev pub HasNoTarget : WorkspaceText → SettingsText → List ℕ → Text × Option Text → Type 0
HasNoTarget w s selected word = (without_tests w s selected ≡ None) × (without_targets w s selected ≡ Some word)

-- Target `t` of package `p` is chosen by its name, and a feature that it requires isn't on.
abbrev pub IsUnmet : WorkspaceText → SettingsText → List ℕ → ℕ → ℕ → Type 0
IsUnmet w s selected p t = AfterSteps w s selected (λ kept on. (starts_by w s selected kept on).unmet ≡ Some (p, t))

-- The targets that are chosen by their names can be built, and package `p` starts on the side, and isn't on there.
abbrev pub IsNotOn : WorkspaceText → SettingsText → List ℕ → ℕ → Side → Type 0
IsNotOn w s selected p side =
    AfterSteps w s selected (λ kept on. ((starts_by w s selected kept on).unmet ≡ None) × (not_on w s on (starts_by w s selected kept on) ≡ Some (p, side)))

-- The targets that are chosen by their names can be built, all that starts is on, and package `p` lacks the dependency `name`.
abbrev pub IsLacking : WorkspaceText → SettingsText → List ℕ → ℕ → Text → Type 0
IsLacking w s selected p name =
    AfterSteps w s selected (λ kept on. ((starts_by w s selected kept on).unmet ≡ None) × (not_on w s on (starts_by w s selected kept on) ≡ None) × (lacks w s on ≡ Some (p, name)))
