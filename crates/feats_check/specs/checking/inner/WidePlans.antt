-- The plans of wider words, and the scenes that they are.
use Rattle.std.specs.Prelude.{◌⊎◌, Some}
use Rattle.cargo_plans.specs.Plans.{IsPlanOf}
use Rattle.cargo_plans.specs.WordsView.{words_text}
use Rattle.cargo_plans.specs.plan_steps.PlanViews.{plan_text}
use Rattle.cargo_workspaces.specs.Workspaces.{Text, WorkspaceText}
use Rattle.plan_rows.specs.platforms.HeldSpecs.{holds_on}
use Rattle.feats_check.specs.checking.Answers.{IsUnplanned}
use Rattle.feats_check.specs.checking.Questions.{QuestionText}
use Rattle.feats_check.specs.checking.Scenes.{SceneText, ScenesText, scene_of}
use Rattle.feats_check.specs.declared.checking.planned.WidePlans.{WidePlans}
use Rattle.feats_check.specs.declared.checking.planned.WideWords.{WideWords}
use Rattle.feats_policies.specs.declared.checks.judged.Judged.TheVariants.{ForEveryChoice, WithAll}

-- The plans are those of the words.
pub record AreWidePlans (w : WorkspaceText) (words : WideWords) (plans : WidePlans) : Type 0 where
  pub all : IsPlanOf w (words_text holds_on words.all) (plan_text plans.all)
  pub widest : IsPlanOf w (words_text holds_on words.widest) (plan_text plans.widest)

-- The message why there is no plan of one of the words.
abbrev pub IsNoWidePlan : WorkspaceText → WideWords → Text → Type 0
IsNoWidePlan w words message = IsUnplanned w (words_text holds_on words.all) message ⊎ IsUnplanned w (words_text holds_on words.widest) message

-- The scenes of the build and of these plans.
abbrev pub scenes_with : SceneText → QuestionText → WideWords → WidePlans → ScenesText
scenes_with here asked words plans = record {
  here = here;
  wide = Some (record {
    all = scene_of here.workspace here.build.selected asked (words_text holds_on words.all) (plan_text plans.all) WithAll;
    widest = scene_of here.workspace here.build.selected asked (words_text holds_on words.widest) (plan_text plans.widest) ForEveryChoice;
  });
}
