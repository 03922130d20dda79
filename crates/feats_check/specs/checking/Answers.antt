-- The answer to a question about a policy.
use Rattle.std.specs.Prelude.{◌≡◌, ◌⊎◌, Bool, IsFalse, Option, Some}
use Rattle.cargo_plans.specs.Plans.{AfterWords, WordsText}
use Rattle.cargo_plans.specs.Refusals.{IsRefusal, is_memory}
use Rattle.cargo_plans.specs.declared.fault.PlanFault.{PlanFault}
use Rattle.cargo_workspaces.specs.Workspaces.{Text, WorkspaceText}
use Rattle.feats_files.specs.plan_messages.Messages.{plan_message}
use Rattle.cargo_plans.specs.plan_steps.Plans.{PlanText}
use Rattle.feats_check.specs.checking.Broken.{IsPolicyText, IsRulesRefusal}
use Rattle.feats_check.specs.checking.Questions.{PrintedText, QuestionText}
use Rattle.feats_check.specs.checking.Scenes.{AreWideScenes, SceneText, ScenesText, all_words, scene_of, widest_words}
use Rattle.feats_policies.specs.declared.checks.judged.Judged.TheVariants.{InBuild}

-- The rules are judged in this scene of the build; for every choice, denies are judged in those of wider words.
pub record AreScenesOf (here : SceneText) (asked : QuestionText) (every : Option (Text → Bool)) (scenes : ScenesText) : Type 0 where
  pub is_here : scenes.here ≡ here
  pub are_wide : AreWideScenes here asked every scenes.wide

-- Exactly the rules that are broken in the scenes are printed.
pub record IsAnswerWith (here : SceneText) (asked : QuestionText) (every : Option (Text → Bool)) (printed : PrintedText) : Type 0 where
  pub scenes : ScenesText
  pub are_scenes : AreScenesOf here asked every scenes
  pub is_text : IsPolicyText asked scenes printed

-- These words are wider, for every choice.
abbrev pub AreWider : SceneText → (Text → Bool) → WordsText → Type 0
AreWider here holds words = (words ≡ all_words holds here.words) ⊎ (words ≡ widest_words holds here.words)

-- The message why words have no plan. The fault isn't out of memory.
pub record IsUnplanned (w : WorkspaceText) (words : WordsText) (message : Text) : Type 0 where
  pub fault : PlanFault
  pub is_refused : IsRefusal w words fault
  pub is_own : IsFalse (is_memory fault)
  pub is_message : message ≡ plan_message w.packages fault

-- Wider words have no plan, or a rule can't be checked.
pub data IsRefusalWith (here : SceneText) (asked : QuestionText) (every : Option (Text → Bool)) (message : Text) : Type 0 where
  no_plan :
      (holds : Text → Bool) → every ≡ Some holds → (wider : WordsText) → AreWider here holds wider → IsUnplanned here.workspace wider message
      → IsRefusalWith here asked every message
  no_check : (scenes : ScenesText) → AreScenesOf here asked every scenes → IsRulesRefusal asked scenes message → IsRefusalWith here asked every message

-- THE ANSWER about a build, with this plan of the words.
abbrev pub IsPolicyAnswer : WorkspaceText → WordsText → PlanText → QuestionText → PrintedText → Type 0
IsPolicyAnswer w words plan asked printed = AfterWords w words (λ chosen. IsAnswerWith (scene_of w chosen.selected asked words plan InBuild) asked asked.every printed)

-- THE MESSAGE why there is none.
abbrev pub IsPolicyRefusal : WorkspaceText → WordsText → PlanText → QuestionText → Text → Type 0
IsPolicyRefusal w words plan asked message =
    AfterWords w words (λ chosen. IsRefusalWith (scene_of w chosen.selected asked words plan InBuild) asked asked.every message)
