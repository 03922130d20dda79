-- Selections that are wider: more is started, dependencies for development count, and more platform specs hold.
use Rattle.std.specs.Prelude.{◌≡◌, ◌⊎◌, ℕ, List, Bool, true, false, Contains, IsTrue, IsFalse, Option, None, Some}
use Rattle.std.specs.List.{list_any}
use Rattle.feature_labels.specs.Names.{LabelName}
use Rattle.cargo_workspaces.specs.Workspaces.{DeclarationText, IsWorkspace, PackageText, Text, WorkspaceText}
use Rattle.plan_words.specs.Choices.{root_of}
use Rattle.plan_words.specs.FeatureWords.{PartsText, declares, is_slash, parts_of}
use Rattle.plan_words.specs.Selections.{SelectionText, all_members}
use Rattle.plan_words.specs.TargetChoices.{needs_development}
use Rattle.plan_rows.specs.Steps.{SettingsText, admits, admits_any}
use Rattle.plan_rows.specs.declared.side.Side.{Side}
use Rattle.cargo_plans.specs.plan_starts.PackageVisits.{is_on}
use Rattle.cargo_plans.specs.plan_steps.Plans.{IsPlan, PlanText}
use Rattle.cargo_plans.specs.Plans.{IsPlanOf, WordsText}
use Rattle.laws.specs.plans.Growth.{CommandsGrow}

-- Each declaration of the workspace has the property.
abbrev pub OfDeclarations : WorkspaceText → (DeclarationText → Type 0) → Type 0
OfDeclarations w P = (x : PackageText) → Contains w.packages x → (d : DeclarationText) → Contains x.declarations d → P d

-- SETTINGS THAT GROW, with the same resolver: dependencies for development if there were any, each command feature with all its items, and each declaration that
-- applies on the host, or on one of the targets, still does.
pub record SettingsGrow (w : WorkspaceText) (s t : SettingsText) : Type 0 where
  pub split : s.split ≡ t.split
  pub development : IsTrue (needs_development s.choice) → IsTrue (needs_development t.choice)
  pub commands : CommandsGrow s.commands t.commands
  pub host : OfDeclarations w (λ d. IsTrue (admits s.host d.platform) → IsTrue (admits t.host d.platform))
  pub targets : OfDeclarations w (λ d. IsTrue (admits_any s.targets d.platform) → IsTrue (admits_any t.targets d.platform))

-- All that is on in the first plan is on in the second, on the same side.
abbrev pub IsOnIn : PlanText → PlanText → Type 0
IsOnIn p q = (side : Side) (k : ℕ) (label : LabelName) → IsTrue (is_on p.on side k label) → IsTrue (is_on q.on side k label)

-- LARGER SETTINGS TURN NOTHING OFF, whatever packages are selected.
abbrev pub LargerTurnsNothingOff : Type 0
LargerTurnsNothingOff = (w : WorkspaceText) (s t : SettingsText) (selected others : List ℕ) (p q : PlanText) → IsWorkspace w
    → SettingsGrow w s t → IsPlan w s selected p → IsPlan w t others q → IsOnIn p q

-- All members with all their features, and perhaps feature words.
abbrev pub widest_selection : Bool → List Text → SelectionText
widest_selection split features = record { packages = all_members; features = features; all_features = true; no_default_features = false; split = split }

-- THE WIDEST WORDS: all members with all their features, and dependencies for development; and each declaration applies on the host, and on one of the targets.
pub record IsWidest (w : WorkspaceText) (words : WordsText) : Type 0 where
  pub selection : words.selection ≡ widest_selection words.selection.split words.selection.features
  pub development : IsTrue (needs_development words.choice)
  pub host : OfDeclarations w (λ d. IsTrue (admits words.host d.platform))
  pub targets : OfDeclarations w (λ d. IsTrue (admits_any words.targets d.platform))

-- A feature word that asks for no feature of a dependency: if it is `NAME/FEATURE`, no package declares a dependency NAME.
abbrev pub AsksNoDependency : WorkspaceText → Text → Type 0
AsksNoDependency w word = (parts : PartsText) → parts_of word ≡ Some parts
    → IsFalse (list_any is_slash parts.feature) × ((x : PackageText) → Contains w.packages x → IsFalse (declares x parts.name))

-- Such a word; or one of the selection's, if each member takes the words that fit it.
abbrev pub CoversWord : WorkspaceText → SelectionText → Text → Type 0
CoversWord w s word = AsksNoDependency w word ⊎ (Contains s.features word × (root_of w s ≡ None))

-- Words that the widest words cover: the resolver is the same, and no feature word asks for a feature of a dependency, but those of the
-- widest words.
pub record IsCovered (w : WorkspaceText) (words widest : WordsText) : Type 0 where
  pub split : words.selection.split ≡ widest.selection.split
  pub features : (f : Text) → Contains words.selection.features f → CoversWord w widest.selection f

-- THE WIDEST WORDS TURN ON all that the words do that they cover.
abbrev pub WidestTurnsAllOn : Type 0
WidestTurnsAllOn = (w : WorkspaceText) (words widest : WordsText) (p q : PlanText) → IsWorkspace w
    → IsWidest w widest → IsCovered w words widest → IsPlanOf w words p → IsPlanOf w widest q → IsOnIn p q

-- A label of package `k` is off, on both sides.
abbrev pub IsOffInPlan : PlanText → ℕ → LabelName → Type 0
IsOffInPlan plan k label = (side : Side) → IsFalse (is_on plan.on side k label)

-- NO SELECTION TURNS ON what is off in the plan of the widest words: all words that they cover leave it off.
abbrev pub NoSelectionTurnsOn : Type 0
NoSelectionTurnsOn = (w : WorkspaceText) (widest : WordsText) (q : PlanText) → IsWorkspace w → IsWidest w widest → IsPlanOf w widest q
    → (k : ℕ) (label : LabelName) → IsOffInPlan q k label
    → (words : WordsText) (p : PlanText) → IsCovered w words widest → IsPlanOf w words p → IsOffInPlan p k label
