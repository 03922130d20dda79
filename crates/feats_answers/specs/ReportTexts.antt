-- The data of a page about a build.
use Rattle.std.specs.Prelude.{List}
use Rattle.cargo_workspaces.specs.Workspaces.{Text, WorkspaceText}
use Rattle.cargo_plans.specs.Plans.{WordsText}
use Rattle.cargo_plans.specs.plan_steps.Plans.{PlanText}
use Rattle.plan_rows.specs.platforms.DeclaredSpecs.{DeclaredText}
use Rattle.feats_files.specs.Files.{FileText}
use Rattle.feats_report.specs.Reports.{IsReport}
use Rattle.feats_words.specs.declared.command_arguments.Format.TheVariants as format
use Rattle.feats_answers.specs.PlanTexts.{text_of_units}
use Rattle.feats_answers.specs.SpecTexts.{IsSpecText, places}

-- The objects of the units, as `plan` prints them.
abbrev pub units_of : List FileText → WorkspaceText → PlanText → Text
units_of targets w plan = text_of_units format.Json targets w.packages plan.units

-- The objects of the platform specs, as `specs` prints them.
abbrev pub AreSpecsOf : List FileText → List DeclaredText → WordsText → Text → Type 0
AreSpecsOf targets declared words text = IsSpecText format.Json declared (places targets words.host words.targets) text

-- The data of a page about the plan, with the objects that `plan` and `specs` print.
pub record IsReportText (targets : List FileText) (w : WorkspaceText) (declared : List DeclaredText) (words : WordsText) (plan : PlanText) (text : Text) : Type 0 where
  pub specs : Text
  pub are_specs : AreSpecsOf targets declared words specs
  pub is_report : IsReport w words plan (units_of targets w plan) specs text
