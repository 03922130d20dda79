-- Tables that grow.
use Rattle.std.specs.Prelude.{◌≡◌, ℕ, List, Bool, Contains, IsTrue, Option, slice_get, Some}
use Rattle.guppy_packages.specs.Rows.{Declared, Text}
use Rattle.guppy_packages.specs.Tables.{AreTables, FeatureTable, LinkTable, PackageTable, Tables}
use Rattle.feature_labels.specs.Names.{LabelName}
use Rattle.plan_starts.specs.step_visits.Visits.{IsVisit, Visit, reaches}
use Rattle.cargo_workspaces.specs.Workspaces.{FeatureText, IsWorkspace, WorkspaceText}
use Rattle.plan_words.specs.Selections.{SelectionText}
use Rattle.plan_rows.specs.Commands.{command_of}
use Rattle.plan_rows.specs.Steps.{SettingsText}
use Rattle.cargo_plans.specs.plan_units.Units.{UnitText}
use Rattle.cargo_plans.specs.plan_steps.Plans.{IsPlan, PlanText}
use Rattle.cargo_plans.specs.Plans.{IsPlanOf, WordsText}

-- Package `y` has each feature of `x`, with all its items.
pub record IsMoreOf (x y : PackageTable) : Type 0 where
  pub features : (f : FeatureTable) → Contains x.features f → (g : FeatureTable) × Contains y.features g × (g.name ≡ f.name) × ((i : Text) → Contains f.items i → Contains g.items i)

-- The tables have the link of this pair and name, with all its declarations: `number` is the number of each package there.
pub record HasLink (s : Tables) (number : ℕ → ℕ) (l : LinkTable) : Type 0 where
  pub place : ℕ
  pub link : LinkTable
  pub is_link : slice_get s.links place ≡ Some link
  pub from : link.from ≡ number l.from
  pub to : link.to ≡ number l.to
  pub name : link.name ≡ l.name
  pub declarations : (d : Declared) → Contains l.declarations d → Contains link.declarations d

-- All that `t` has of the packages in the set, `s` has too, where `number` is the number of each of these packages in `s`. In `t` no link leads
-- out of the set.
pub record HasMore (t s : Tables) (R : ℕ → Bool) (number : ℕ → ℕ) : Type 0 where
  pub packages : (p : ℕ) (x : PackageTable) → IsTrue (R p) → slice_get t.packages p ≡ Some x → (y : PackageTable) × (slice_get s.packages (number p) ≡ Some y) × IsMoreOf x y
  pub links : (k : ℕ) (l : LinkTable) → IsTrue (R l.from) → slice_get t.links k ≡ Some l → HasLink s number l × IsTrue (R l.to)

-- Each start is among the others, by its package's number there.
abbrev pub AreAmongBy : (ℕ → ℕ) → List (ℕ × LabelName) → List (ℕ × LabelName) → Type 0
AreAmongBy number starts more = (x : ℕ × LabelName) → Contains starts x → Contains more (number x.0, x.1)

-- TABLES THAT GROW reach more: a visit that starts in the set has a label only if a visit of the larger tables has it, from these starts and
-- more.
abbrev pub GrownTablesReachMore : Type 0
GrownTablesReachMore = (t s : Tables) → AreTables t → AreTables s → (R : ℕ → Bool) (number : ℕ → ℕ) → HasMore t s R number
    → (starts more : List (ℕ × LabelName)) → AreAmongBy number starts more → ((x : ℕ × LabelName) → Contains starts x → IsTrue (R x.0))
    → (u v : Visit) → IsVisit t starts u → IsVisit s more v → (k : ℕ) (label : LabelName) → IsTrue (reaches u k label) → IsTrue (reaches v (number k) label)

-- The settings with other command features.
abbrev pub with_commands : SettingsText → List (Option FeatureText) → SettingsText
with_commands s commands = record { split = s.split; choice = s.choice; commands = commands; host = s.host; targets = s.targets }

-- Each command feature is there with all its items.
abbrev pub CommandsGrow : List (Option FeatureText) → List (Option FeatureText) → Type 0
CommandsGrow commands more =
    (p : ℕ) (f : FeatureText) → command_of commands p ≡ Some f → (g : FeatureText) × (command_of more p ≡ Some g) × (g.name ≡ f.name) × ((i : Text) → Contains f.items i → Contains g.items i)

-- MORE FEATURES AND PACKAGES TURN NOTHING OFF: each package of a plan is in the plan for more of them, in the same place and with all its
-- features.
abbrev pub MoreTurnsNothingOff : Type 0
MoreTurnsNothingOff = (w : WorkspaceText) (s : SettingsText) (commands : List (Option FeatureText)) (selected more : List ℕ) (p q : PlanText) → IsWorkspace w
    → CommandsGrow s.commands commands → ((n : ℕ) → Contains selected n → Contains more n) → IsPlan w s selected p → IsPlan w (with_commands s commands) more q
    → (u : UnitText) → Contains p.units u → (v : UnitText) × Contains q.units v × (v.place ≡ u.place) × (v.number ≡ u.number) × ((f : Text) → Contains u.features f → Contains v.features f)

-- The words with other feature words.
abbrev pub select_features : SelectionText → List Text → SelectionText
select_features s features = record { packages = s.packages; features = features; all_features = s.all_features; no_default_features = s.no_default_features; split = s.split }

abbrev pub with_feature_words : WordsText → List Text → WordsText
with_feature_words words features = record { selection = select_features words.selection features; choice = words.choice; host = words.host; targets = words.targets }

-- MORE FEATURE WORDS TURN NOTHING OFF.
abbrev pub MoreWordsTurnNothingOff : Type 0
MoreWordsTurnNothingOff = (w : WorkspaceText) (words : WordsText) (more : List Text) (p q : PlanText) → IsWorkspace w
    → ((f : Text) → Contains words.selection.features f → Contains more f) → IsPlanOf w words p → IsPlanOf w (with_feature_words words more) q
    → (u : UnitText) → Contains p.units u → (v : UnitText) × Contains q.units v × (v.place ≡ u.place) × (v.number ≡ u.number) × ((f : Text) → Contains u.features f → Contains v.features f)
