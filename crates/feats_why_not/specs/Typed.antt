-- The words of a command line that turn a part on.
use Rattle.std.specs.Prelude.{◌≡◌, List, [], ◌∷◌, ◌++◌, Bool, true, false, IsTrue, IsFalse, Option, None, Some, Result, Ok, Err, codes, if◌then◌else◌}
use Rattle.cargo_workspaces.specs.Workspaces.{Text, WorkspaceText}
use Rattle.cargo_plans.specs.plan_steps.Plans.{PlanText}
use Rattle.cargo_plans.specs.Plans.{IsPlanOf, WordsText}
use Rattle.cargo_plans.specs.Refusals.{IsRefusal, is_memory}
use Rattle.cargo_plans.specs.declared.fault.PlanFault.{PlanFault}
use Rattle.plan_words.specs.Selections.{SelectionText, named}
use Rattle.plan_words.specs.TargetChoices.{needs_development, of_command}
use Rattle.shown_texts.specs.Shown.{escaped}
use Rattle.feats_why_not.specs.Answers.{AnswerText, explained, not_planned, off, unbuilt}
use Rattle.feats_why_not.specs.Parts.{PartText}
use Rattle.feats_why_not.specs.Standings as standing
use Rattle.feats_why_not.specs.Standings.{StandingText, standing_of}
use Rattle.feats_why_not.specs.Tries.{TypedText, one_text, tries_of}

abbrev pub typed_selection : Bool → TypedText → SelectionText
typed_selection split t = record { packages = named (t.name ∷ []); features = one_text t.feature; all_features = false; no_default_features = false; split = split }

-- The words of a command line with this resolver and these platforms, for the build of `cargo test` or of `cargo build`. They have no words
-- for targets.
abbrev pub typed_words : WordsText → TypedText → WordsText
typed_words here t = record { selection = typed_selection here.selection.split t; choice = of_command t.test; host = here.host; targets = here.targets }

-- What words have: a plan, or a reason why they have none.
abbrev pub HasOutcome : WorkspaceText → WordsText → Result PlanText PlanFault → Type 0
HasOutcome w words (Ok plan) = IsPlanOf w words plan
HasOutcome w words (Err fault) = IsRefusal w words fault × IsFalse (is_memory fault)

abbrev pub is_built_standing : StandingText → Bool
is_built_standing (standing.built_on side) = true
is_built_standing (standing.unbuilt_on side) = false
is_built_standing standing.off = false

-- Whether the part is built in the plan, if there is one.
abbrev pub builds : Bool → PartText → Result PlanText PlanFault → Bool
builds split part (Ok plan) = is_built_standing (standing_of split plan part)
builds split part (Err fault) = false

-- Whether the part is built in a plan of the words. It isn't, if they have none.
pub record IsBuiltIf (w : WorkspaceText) (words : WordsText) (part : PartText) (is : Bool) : Type 0 where
  pub outcome : Result PlanText PlanFault
  pub has_outcome : HasOutcome w words outcome
  pub is_built : is ≡ builds words.selection.split part outcome

-- THE FIRST of these words whose plan has the part built, if there are such words.
abbrev pub IsFirst : WorkspaceText → WordsText → PartText → List TypedText → Option TypedText → Type 0
IsFirst w here part [] typed = typed ≡ None
IsFirst w here part (t ∷ ts) typed =
    (is : Bool) × IsBuiltIf w (typed_words here t) part is × (IsTrue is → typed ≡ Some t) × (IsFalse is → IsFirst w here part ts typed)

-- Whether there is one part.
abbrev pub is_single : List PartText → Bool
is_single [] = false
is_single (part ∷ []) = true
is_single (part ∷ more ∷ parts) = false

-- THE WORDS TO TYPE for an answer by `words`: of the words that are tried, the first that build the part. The command line is `here`, and
-- `alone` is whether it asks about one part.
abbrev pub IsTyped : Bool → WorkspaceText → WordsText → WordsText → PartText → AnswerText → Option TypedText → Type 0
IsTyped alone w here words part (explained whys) typed = IsFirst w here part (tries_of alone w.packages (needs_development here.choice) (needs_development words.choice) whys) typed
IsTyped alone w here words part (unbuilt message) typed = typed ≡ None
IsTyped alone w here words part off typed = typed ≡ None
IsTyped alone w here words part (not_planned message) typed = typed ≡ None

abbrev pub feature_word : Option Text → Text
feature_word None = []
feature_word (Some feature) = codes " -F " ++ feature

abbrev pub tests_word : Bool → Text
tests_word test = if test then codes " --command test" else []

-- The words as they are typed.
abbrev pub typed_text : TypedText → Text
typed_text t = codes "-p " ++ (t.name ++ (feature_word t.feature ++ tests_word t.test))

-- The line with the words. Control characters in names are escaped.
abbrev pub typed_line : Option TypedText → Text
typed_line None = []
typed_line (Some t) = codes "words: " ++ (escaped (typed_text t) ++ codes "\n")
