-- The answers to questions about a build.
use Rattle.std.specs.Prelude.{◌≡◌}
use Rattle.cargo_workspaces.specs.Workspaces.{Text, WorkspaceText}
use Rattle.cargo_plans.specs.Plans.{WordsText}
use Rattle.plan_names.specs.Faults.{package_named}
use Rattle.plan_rows.specs.platforms.DeclaredSpecs.{declared_specs}
use Rattle.cargo_plans.specs.plan_steps.Plans.{PlanText}
use Rattle.feats_words.specs.Requests.{QuestionText, check, dot, duplicates, list, plan, report, routes, slim, specs, summary, tree, unused, why, why_not}
use Rattle.feats_answers.specs.AnswerTexts.{AnswerText}
pub use Rattle.feats_answers.specs.AnswerTexts.{IsPositive}
use Rattle.feats_answers.specs.Asked.{AskedText}
use Rattle.feats_answers.specs.DuplicateTexts.{IsDuplicatesText}
use Rattle.feats_answers.specs.EdgeTexts.{IsDotBy, IsNoTreeBy, IsTreeBy}
use Rattle.feats_answers.specs.ListTexts.{IsListText}
use Rattle.feats_answers.specs.NameMessages.{IsNameRefusal}
use Rattle.feats_answers.specs.Parts.{IsPartRefusal}
use Rattle.feats_answers.specs.PlanTexts.{text_of_units}
use Rattle.feats_answers.specs.PolicyTexts.{IsCheckAnswer, IsCheckRefusal}
use Rattle.feats_answers.specs.ReportTexts.{IsReportText}
use Rattle.feats_answers.specs.RouteTexts.{IsRoutesAnswer}
use Rattle.feats_answers.specs.SlimTexts.{IsNoSlim, IsSlimBy}
use Rattle.feats_answers.specs.SpecTexts.{IsSpecText, places}
use Rattle.feats_answers.specs.SummaryTexts.{IsNoSummary, IsSummaryText}
use Rattle.feats_answers.specs.UnusedTexts.{IsUnusedText}
use Rattle.feats_answers.specs.WhyNotTexts.{IsWhyNotAnswer}
use Rattle.feats_answers.specs.WhyParts.{IsWhyRefusal}
use Rattle.feats_answers.specs.WhyTexts.{IsWhyAnswer}

-- The answer to one of the questions.
abbrev pub Answers : QuestionText → AskedText → WorkspaceText → WordsText → PlanText → AnswerText → Type 0
Answers plan a w words build = IsPositive (λ text. text ≡ text_of_units a.arguments.format a.targets w.packages build.units)
Answers summary a w words build = IsPositive (IsSummaryText a.document w words build)
Answers (routes word) a w words build = IsRoutesAnswer a.arguments.format a.targets w words build word
Answers (why word all) a w words build = IsWhyAnswer a.arguments.format all w words build word
Answers (why_not word) a w words build = IsWhyNotAnswer a.arguments.format w (declared_specs w.packages) words build word
Answers specs a w words build = IsPositive (IsSpecText a.arguments.format (declared_specs w.packages) (places a.targets words.host words.targets))
Answers (list word) a w words build = IsPositive (IsListText a.arguments.format w words.selection.split build word)
Answers unused a w words build = IsPositive (IsUnusedText a.arguments.format w)
Answers (duplicates alone all) a w words build = IsPositive (IsDuplicatesText a.arguments.format alone all a.targets w words build)
Answers (tree invert) a w words build = IsTreeBy a.arguments.edges a w words build invert
Answers dot a w words build = IsDotBy a.arguments.edges a.targets w words build
Answers report a w words build = IsPositive (IsReportText a.targets w (declared_specs w.packages) words build)
Answers (check file every_choice strict) a w words build = IsCheckAnswer a w (declared_specs w.packages) words build file every_choice
Answers (slim file) a w words build = IsPositive (IsSlimBy a.arguments.format a.member_manifests w words build.units)

-- THE ANSWER to the question of the arguments about the build of these words.
abbrev pub IsAnswerTo : AskedText → WorkspaceText → WordsText → PlanText → AnswerText → Type 0
IsAnswerTo asked w words build = Answers asked.arguments.question asked w words build

-- The message that refuses one of the questions.
abbrev pub Refuses : QuestionText → AskedText → WorkspaceText → WordsText → PlanText → Text → Type 0
Refuses plan a w words build = λ _. ⊥
Refuses summary a w words build = IsNoSummary words.targets
Refuses (routes word) a w words build = IsNameRefusal w.packages (package_named w.packages word)
Refuses (why word all) a w words build = IsWhyRefusal w words build word
Refuses (why_not word) a w words build = IsPartRefusal w words word
Refuses specs a w words build = λ _. ⊥
Refuses (list word) a w words build = IsNameRefusal w.packages (package_named w.packages word)
Refuses unused a w words build = λ _. ⊥
Refuses (duplicates alone all) a w words build = λ _. ⊥
Refuses (tree invert) a w words build = IsNoTreeBy a.arguments.edges w words invert
Refuses dot a w words build = λ _. ⊥
Refuses report a w words build = λ _. ⊥
Refuses (check file every_choice strict) a w words build = IsCheckRefusal a w (declared_specs w.packages) words build file every_choice
Refuses (slim file) a w words build = IsNoSlim a.member_manifests

-- THE MESSAGE that refuses the question: its word names nothing or several things, a policy can't be checked, or a manifest isn't TOML.
abbrev pub IsNoAnswerTo : AskedText → WorkspaceText → WordsText → PlanText → Text → Type 0
IsNoAnswerTo asked w words build = Refuses asked.arguments.question asked w words build
