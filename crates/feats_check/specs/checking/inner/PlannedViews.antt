-- The scenes of plans.
use Rattle.std.specs.Prelude.{ℕ, List, Option, option_map}
use Rattle.cargo_plans.specs.WordsView.{words_text}
use Rattle.cargo_workspaces.specs.Workspaces.{WorkspaceText}
use Rattle.plan_rows.specs.platforms.HeldSpecs.{holds_on}
use Rattle.cargo_plans.specs.plan_steps.PlanViews.{plan_text}
use Rattle.feats_check.specs.checking.Questions.{QuestionText}
use Rattle.feats_check.specs.checking.Scenes.{SceneText, ScenesText, WideText, scene_of}
use Rattle.feats_check.specs.declared.checking.planned.Planned.{Planned}
use Rattle.feats_check.specs.declared.checking.planned.Wide.{Wide}

abbrev pub scene_by : WorkspaceText → List ℕ → QuestionText → Planned → SceneText
scene_by w selected asked p = scene_of w selected asked (words_text holds_on p.words.now) (plan_text p.plan.now) p.judged

abbrev pub wide_by : WorkspaceText → List ℕ → QuestionText → Wide → WideText
wide_by w selected asked wide = record { all = scene_by w selected asked wide.all; widest = scene_by w selected asked wide.widest }

abbrev pub scenes_by : WorkspaceText → List ℕ → QuestionText → Planned → Option Wide → ScenesText
scenes_by w selected asked here wide = record { here = scene_by w selected asked here; wide = option_map (wide_by w selected asked) wide }
