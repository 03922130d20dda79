-- The plans of the selected members, each alone.
use Rattle.std.specs.Prelude.{◌≡◌, ℕ, List, [], ◌∷◌, IsFalse, Some, map, nat_eq, slice_get}
use Rattle.std.specs.List.{AllByRecursion, filter, list_any}
use Rattle.cargo_workspaces.specs.Workspaces.{Text, PackageText, WorkspaceText}
use Rattle.cargo_plans.specs.plan_steps.Plans.{PlanText}
use Rattle.cargo_plans.specs.Plans.{AfterWords, IsPlanOf, WordsText}
use Rattle.cargo_plans.specs.Refusals.{IsRefusal, is_memory}
use Rattle.cargo_plans.specs.declared.fault.PlanFault.{PlanFault}
use Rattle.feats_files.specs.plan_messages.Messages.{plan_message}
use Rattle.cargo_plans.specs.plan_units.Units.{UnitText}
use Rattle.plan_words.specs.Selections.{SelectionText, named}

-- The selection with the package of this id, and no other.
abbrev pub select_one : Text → SelectionText → SelectionText
select_one id s = record { packages = named (id ∷ []); features = s.features; all_features = s.all_features; no_default_features = s.no_default_features; split = s.split }

-- The words with the package of this id as the only selected one.
abbrev pub alone : Text → WordsText → WordsText
alone id words = record { selection = select_one id words.selection; choice = words.choice; host = words.host; targets = words.targets }

-- What a selection builds, or the message why it has no plan.
pub data OutcomeText : Type 0 where
  built : List UnitText → OutcomeText
  not_planned : Text → OutcomeText

-- The words are refused, and this is the message why.
pub record IsRefusedWith (w : WorkspaceText) (words : WordsText) (message : Text) : Type 0 where
  pub refusal : PlanFault
  pub is_refusal : IsRefusal w words refusal
  pub is_own : IsFalse (is_memory refusal)
  pub is_message : message ≡ plan_message w.packages refusal

-- These are the units of a plan of the words.
pub record AreBuiltBy (w : WorkspaceText) (words : WordsText) (units : List UnitText) : Type 0 where
  pub plan : PlanText
  pub is_plan : IsPlanOf w words plan
  pub are_units : units ≡ plan.units

abbrev pub IsOutcome : WorkspaceText → WordsText → OutcomeText → Type 0
IsOutcome w words (built units) = AreBuiltBy w words units
IsOutcome w words (not_planned message) = IsRefusedWith w words message

-- The number of a member, and what its plan alone builds.
pub record MemberPlanText : Type 0 where
  pub member : ℕ
  pub outcome : OutcomeText

-- The outcome is that of the words with the member alone.
pub record IsMemberPlan (w : WorkspaceText) (words : WordsText) (plan : MemberPlanText) : Type 0 where
  pub described : PackageText
  pub is_member : slice_get w.packages plan.member ≡ Some described
  pub is_outcome : IsOutcome w (alone described.id words) plan.outcome

-- The members among the selected packages, in the order of the document.
abbrev pub selected_members : WorkspaceText → List ℕ → List ℕ
selected_members w selected = filter (λ m. list_any (nat_eq m) selected) w.members

-- These are the plans of these members, each alone.
pub record AreMemberPlans (w : WorkspaceText) (words : WordsText) (members : List ℕ) (plans : List MemberPlanText) : Type 0 where
  pub are_members : map (λ p. p.member) plans ≡ members
  pub are_plans : AllByRecursion (IsMemberPlan w words) plans

-- THE PLANS of the members that the words select, each alone.
abbrev pub ArePlansAlone : WorkspaceText → WordsText → List MemberPlanText → Type 0
ArePlansAlone w words plans = AfterWords w words (λ chosen. AreMemberPlans w words (selected_members w chosen.selected) plans)
