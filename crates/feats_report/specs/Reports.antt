-- The data of a page about a build.
use Rattle.std.specs.Prelude.{◌≡◌, ℕ, List, [], ◌∷◌, codes}
use Rattle.json.specs.Print.{print}
use Rattle.cargo_workspaces.specs.Workspaces.{Text, WorkspaceText}
use Rattle.cargo_plans.specs.Plans.{WordsText}
use Rattle.cargo_plans.specs.plan_steps.Plans.{PlanText}
use Rattle.plan_whys.specs.AllSteps.{IsExplanationBy}
use Rattle.plan_whys.specs.Steps.{AreBacked, WhyText}
use Rattle.plan_whys.specs.links.UnitLinks.{AreUnitLinks, root_units}
use Rattle.feats_why.specs.Objects.{why_objects}
use Rattle.feats_why.specs.Settings.{settings_of}
use Rattle.page_data.specs.Arrays.{array_of_lines}
use Rattle.page_data.specs.Pages.{page_safe}
use Rattle.feats_report.specs.Declarations.{built_declarations}
use Rattle.feats_report.specs.Features.{built_features}
use Rattle.feats_report.specs.Numbers.{number_tokens, pairs_tokens}
use Rattle.feats_report.specs.Objects.{MemberText, object_text}

-- The values of a report, each as JSON.
pub record PartsText : Type 0 where
  pub units : Text
  pub roots : Text
  pub links : Text
  pub declarations : Text
  pub steps : Text
  pub features : Text
  pub specs : Text

abbrev pub member : Text → Text → MemberText
member name value = record { name = name; value = value }

-- The data of these values.
abbrev pub data_text : PartsText → Text
data_text p = page_safe (object_text (
    member (codes "units") p.units
    ∷ member (codes "roots") p.roots
    ∷ member (codes "links") p.links
    ∷ member (codes "declarations") p.declarations
    ∷ member (codes "steps") p.steps
    ∷ member (codes "features") p.features
    ∷ member (codes "specs") p.specs
    ∷ []))

-- The numbers of the units that the selection starts.
abbrev pub roots_text : PlanText → Text
roots_text plan = print (number_tokens (root_units plan))

-- `text` is the array of the links between units, as pairs of their numbers. The first unit of a pair depends on the second.
pub record IsLinksText (plan : PlanText) (text : Text) : Type 0 where
  pub links : List (ℕ × ℕ)
  pub are_links : AreUnitLinks plan links
  pub is_text : text ≡ print (pairs_tokens links)

-- `text` contains the steps of one explanation of exactly what is on. The reason of a step names only spots of earlier steps.
pub record IsStepsText (w : WorkspaceText) (words : WordsText) (plan : PlanText) (text : Text) : Type 0 where
  pub whys : List WhyText
  pub is_explanation : IsExplanationBy w words plan.on whys
  pub are_backed : AreBacked whys
  pub is_text : text ≡ array_of_lines (why_objects w.packages (settings_of words) whys)

-- THE DATA of a page about a plan, with the lines of its units and of the platform specs.
pub record IsReport (w : WorkspaceText) (words : WordsText) (plan : PlanText) (units specs text : Text) : Type 0 where
  pub links : Text
  pub is_links : IsLinksText plan links
  pub steps : Text
  pub is_steps : IsStepsText w words plan steps
  pub is_text : text ≡ data_text (record {
    units = array_of_lines units;
    roots = roots_text plan;
    links = links;
    declarations = array_of_lines (built_declarations words.selection.split w.packages plan);
    steps = steps;
    features = array_of_lines (built_features words.selection.split w.packages plan);
    specs = array_of_lines specs;
  })

-- The data of a page about the differences of two builds, with their lines.
abbrev pub differences_text : Text → Text
differences_text differences = page_safe (object_text (member (codes "differences") (array_of_lines differences) ∷ []))
