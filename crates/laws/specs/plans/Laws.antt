-- Laws of visits and of plans.
use Rattle.std.specs.Prelude.{◌≡◌, ℕ, List, Bool, true, false, Some, Contains, IsTrue, IsFalse, slice_get}
use Rattle.std.specs.List.{list_any}
use Rattle.guppy_packages.specs.Rows.{RowText}
use Rattle.guppy_packages.specs.Tables.{Tables}
use Rattle.feature_labels.specs.Names.{LabelName}
use Rattle.plan_starts.specs.step_visits.Visits.{IsReached, IsVisitOf, Visit, reaches}
use Rattle.cargo_workspaces.specs.Workspaces.{DeclarationText, IsWorkspace, PackageText, Text, WorkspaceText, has_macro_target}
use Rattle.plan_words.specs.TargetChoices.{needs_development}
use Rattle.plan_rows.specs.Steps.{SettingsText, admits, is_build, is_development, on_side, resolved_entries}
use Rattle.plan_rows.specs.declared.side.Side.TheVariants.{Target}
use Rattle.cargo_plans.specs.plan_units.Commands.{on_starts}
use Rattle.cargo_plans.specs.plan_units.Units.{UnitText}
use Rattle.cargo_plans.specs.plan_steps.PlanViews.{IsRefused}
use Rattle.cargo_plans.specs.plan_steps.Plans.{IsPlan, PlanText}
use Rattle.cargo_plans.specs.declared.plan_steps.fault.StepFault.{StepFault}
use Rattle.cargo_plans.specs.declared.plan_steps.fault.StepFault.TheVariants as step
use Rattle.cargo_plans.specs.Plans.{IsPlanOf, WordsText}
use Rattle.cargo_plans.specs.Refusals.{IsRefusal}
use Rattle.cargo_plans.specs.declared.fault.PlanFault.{PlanFault}
use Rattle.cargo_plans.specs.declared.fault.PlanFault.TheVariants as fault

-- The starts are among the others.
abbrev pub AreAmong : List (ℕ × LabelName) → List (ℕ × LabelName) → Type 0
AreAmong starts more = (s : ℕ × LabelName) → Contains starts s → Contains more s

-- MORE STARTS reach more: all that is reached, and in visits of the same rows each label that is reached.
abbrev pub MoreStartsReachMore : Type 0
MoreStartsReachMore = (t : Tables) (starts more : List (ℕ × LabelName)) → AreAmong starts more → (n : ℕ) → IsReached t starts n → IsReached t more n

abbrev pub MoreStartsVisitMore : Type 0
MoreStartsVisitMore = (rows : List RowText) (starts more : List (ℕ × LabelName)) (u v : Visit) → AreAmong starts more → IsVisitOf rows starts u → IsVisitOf rows more v
    → (k : ℕ) (label : LabelName) → IsTrue (reaches u k label) → IsTrue (reaches v k label)

-- A set of packages that has, with a package, each package to which one of its declarations leads.
abbrev pub FollowsDeclarations : WorkspaceText → (ℕ → Bool) → Type 0
FollowsDeclarations w P =
    (p q : ℕ) (x : PackageText) (d : DeclarationText) → slice_get w.packages p ≡ Some x → Contains x.declarations d → d.leads_to ≡ Some q → IsTrue (P p) → IsTrue (P q)

-- A plan has no package but those that declarations lead to from the selected ones: each set with the selected packages that follows
-- declarations has all packages of the plan.
abbrev pub PlansFollowDeclarations : Type 0
PlansFollowDeclarations = (w : WorkspaceText) (s : SettingsText) (selected : List ℕ) (plan : PlanText) → IsWorkspace w → IsPlan w s selected plan
    → (P : ℕ → Bool) → FollowsDeclarations w P → ((p : ℕ) → Contains selected p → IsTrue (P p))
    → (u : UnitText) → Contains plan.units u → IsTrue (P u.number)

-- A workspace and a selection have ONE PLAN.
abbrev pub OnePlan : Type 0
OnePlan = (w : WorkspaceText) (s : SettingsText) (selected : List ℕ) (p q : PlanText) → IsPlan w s selected p → IsPlan w s selected q → p.units ≡ q.units

abbrev pub OnePlanOfWords : Type 0
OnePlanOfWords = (w : WorkspaceText) (words : WordsText) (p q : PlanText) → IsPlanOf w words p → IsPlanOf w words q → p.units ≡ q.units

-- A plan excludes all refusals but that an allocation fails.
abbrev pub PlanExcludesRefusal : Type 0
PlanExcludesRefusal = (w : WorkspaceText) (s : SettingsText) (selected : List ℕ) (p : PlanText) (e : StepFault) → IsPlan w s selected p → IsRefused w s selected e → e ≡ step.Memory

abbrev pub PlanOfWordsExcludesRefusal : Type 0
PlanOfWordsExcludesRefusal = (w : WorkspaceText) (words : WordsText) (p : PlanText) (e : PlanFault) → IsPlanOf w words p → IsRefusal w words e → e ≡ fault.Steps step.Memory

-- The settings, if the resolver tells sides apart or doesn't.
abbrev pub with_split : SettingsText → Bool → SettingsText
with_split s split = record { split = split; choice = s.choice; commands = s.commands; host = s.host; targets = s.targets }

-- Whether a declaration counts alike with each resolver: it isn't for builds; if it is for development, such dependencies count; and it is
-- used on one of the targets.
abbrev pub IsDeclaredAlike : SettingsText → DeclarationText → Type 0
IsDeclaredAlike s d =
    IsFalse (is_build d.kind) × (IsTrue (is_development d.kind) → IsTrue (needs_development s.choice)) × IsTrue (list_any (λ holds. admits holds d.platform) s.targets)

-- No target of a package is a procedural macro, and each declaration counts alike with each resolver. So nothing is for the host alone.
abbrev pub AllCountAlike : WorkspaceText → SettingsText → Type 0
AllCountAlike w s = (x : PackageText) → Contains w.packages x → IsFalse (has_macro_target x) × ((d : DeclarationText) → Contains x.declarations d → IsDeclaredAlike s d)

-- RESOLVERS 1 and 2 resolve alike, and then have the same features to turn on for the targets, from the same starts.
abbrev pub ResolversAgree : Type 0
ResolversAgree = (w : WorkspaceText) (s : SettingsText) → AllCountAlike w s
    → (resolved_entries w (with_split s true) ≡ resolved_entries w (with_split s false))
    × ((kept : ℕ → Text → Bool) → on_side w.packages (with_split s true) kept Target ≡ on_side w.packages (with_split s false) kept Target)
    × (on_starts w (with_split s true) ≡ on_starts w (with_split s false))
