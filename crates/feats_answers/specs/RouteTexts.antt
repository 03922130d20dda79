-- The routes by which selected members lead to a package.
use Rattle.std.specs.Prelude.{◌≡◌, ℕ, List, Ok}
use Rattle.cargo_workspaces.specs.Workspaces.{Text, WorkspaceText}
use Rattle.cargo_plans.specs.Plans.{WordsText}
use Rattle.cargo_plans.specs.plan_steps.Plans.{PlanText}
use Rattle.feats_files.specs.Files.{FileText}
use Rattle.feats_routes.specs.Routes.{IsRoutesText}
use Rattle.feats_words.specs.declared.command_arguments.Format.{Format}
use Rattle.plan_names.specs.Faults.{package_named}
use Rattle.feats_answers.specs.AnswerTexts.{AnswerText}
use Rattle.feats_answers.specs.PlanTexts.{target_names}
use Rattle.feats_answers.specs.TreeTexts.{inverted_answer}

-- The answer with the routes to the package that the word names: if there is none, it says that the package isn't built.
pub record IsRoutesAnswer (form : Format) (files : List FileText) (w : WorkspaceText) (words : WordsText) (plan : PlanText) (word : Text) (answer : AnswerText) : Type 0 where
  pub number : ℕ
  pub is_named : package_named w.packages word ≡ Ok number
  pub routes : Text
  pub are_routes : IsRoutesText form (target_names files) w words plan number routes
  pub is_answer : answer ≡ inverted_answer form word routes
