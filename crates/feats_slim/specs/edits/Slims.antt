-- The edits of declarations after which a build is smaller.
use Rattle.std.specs.Prelude.{◌≡◌, ◌⊎◌, ℕ, List, [], Bool, IsFalse, ◌||◌, length, map, nat_eq, nat_lt}
use Rattle.std.specs.List.{AllByRecursion, filter, list_any}
use Rattle.cargo_workspaces.specs.Workspaces.{PackageText, WorkspaceText}
use Rattle.cargo_plans.specs.Plans.{AfterWords, IsPlanOf, WordsText}
use Rattle.cargo_plans.specs.Refusals.{IsRefusal, is_memory}
use Rattle.cargo_plans.specs.declared.fault.PlanFault.{PlanFault}
use Rattle.feats_slim.specs.edits.Losses.{LossesText, losses_of}
use Rattle.cargo_plans.specs.plan_steps.Plans.{PlanText}
use Rattle.cargo_plans.specs.plan_units.Units.{UnitText}
use Rattle.cargo_manifests.specs.inherited.Inheritances.{InheritanceText}
use Rattle.cargo_manifests.specs.Edits.{EditText, edited_text, edits_of}
use Rattle.feats_slim.specs.edits.Orders.{IsInOrder, SlimText}

-- As many packages and features as are lost.
abbrev pub HasNumbersOf : LossesText → SlimText → Type 0
HasNumbersOf lost s = (s.packages ≡ length lost.numbers) × (s.features ≡ length lost.features)

-- The numbers are those of what falls away from the units `before` to those of a plan of the words in the edited workspace.
pub record IsCountedIn (packages : List PackageText) (edited : WorkspaceText) (words : WordsText) (before : List UnitText) (s : SlimText) : Type 0 where
  pub plan : PlanText
  pub is_plan : IsPlanOf edited words plan
  pub has_numbers : HasNumbersOf (losses_of packages before plan.units) s

abbrev pub nothing : LossesText
nothing = record { numbers = []; features = [] }

-- The words have no plan in the edited workspace, and nothing counts as falling away.
pub record HasNoPlanIn (edited : WorkspaceText) (words : WordsText) (s : SlimText) : Type 0 where
  pub refusal : PlanFault
  pub is_refusal : IsRefusal edited words refusal
  pub is_own : IsFalse (is_memory refusal)
  pub has_numbers : HasNumbersOf nothing s

abbrev pub IsTriedIn : List PackageText → WorkspaceText → WordsText → List UnitText → SlimText → Type 0
IsTriedIn packages edited words before s = IsCountedIn packages edited words before s ⊎ HasNoPlanIn edited words s

-- How much falls away from the units `before` by an edit: by the plan of the same words in the edited workspace.
abbrev pub IsTried : WorkspaceText → InheritanceText → WordsText → List UnitText → SlimText → Type 0
IsTried w i words before s = IsTriedIn w.packages (edited_text w i s.edit) words before s

-- Each of the edits, with how much falls away by it.
pub record AreTried (w : WorkspaceText) (i : InheritanceText) (words : WordsText) (before : List UnitText) (edits : List EditText) (tried : List SlimText) : Type 0 where
  pub are_edits : map (λ s. s.edit) tried ≡ edits
  pub are_tried : AllByRecursion (IsTried w i words before) tried

abbrev pub makes_smaller : SlimText → Bool
makes_smaller s = nat_lt 0 s.packages || nat_lt 0 s.features

-- The members among the selected packages, in the order of the document.
abbrev pub selected_members : WorkspaceText → List ℕ → List ℕ
selected_members w selected = filter (λ m. list_any (nat_eq m) selected) w.members

-- The edits of the declarations of these packages by which something falls away, in order.
pub record AreSlimsBy (w : WorkspaceText) (i : InheritanceText) (words : WordsText) (before : List UnitText) (numbers : List ℕ) (slims : List SlimText) : Type 0 where
  pub tried : List SlimText
  pub are_tried : AreTried w i words before (edits_of w i numbers) tried
  pub are_in_order : IsInOrder (filter makes_smaller tried) slims

-- THE EDITS of the selected members' declarations, and of entries that they inherit, by which less is built than these units, with how much
-- falls away: most packages first, then most features, then in the order of the edits.
abbrev pub AreSlimsOf : WorkspaceText → InheritanceText → WordsText → List UnitText → List SlimText → Type 0
AreSlimsOf w i words before slims = AfterWords w words (λ chosen. AreSlimsBy w i words before (selected_members w chosen.selected) slims)
