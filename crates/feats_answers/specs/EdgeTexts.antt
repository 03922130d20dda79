-- Trees and graphs, of packages or of features.
use Rattle.std.specs.Prelude.{List, Option}
use Rattle.cargo_workspaces.specs.Workspaces.{Text, WorkspaceText}
use Rattle.cargo_plans.specs.Plans.{WordsText}
use Rattle.feats_files.specs.Files.{FileText}
use Rattle.feats_words.specs.declared.edges.Edges.{Edges}
use Rattle.feats_words.specs.declared.edges.Edges.TheVariants as edges
use Rattle.cargo_plans.specs.plan_steps.Plans.{PlanText}
use Rattle.feats_tree.specs.packages.Dots.{IsPackageDot}
use Rattle.feats_answers.specs.AnswerTexts.{AnswerText, IsPositive}
use Rattle.feats_answers.specs.Asked.{AskedText}
use Rattle.feats_answers.specs.FeatureTexts.{IsFeatureDotAnswer, IsFeatureTreeAnswer, IsFeatureTreeRefusal}
use Rattle.feats_answers.specs.PlanTexts.{target_names}
use Rattle.feats_answers.specs.TreeTexts.{IsTreeAnswer, IsTreeRefusal}

-- The answer to `tree`, whose nodes are packages or features.
abbrev pub IsTreeBy : Edges → AskedText → WorkspaceText → WordsText → PlanText → Option Text → AnswerText → Type 0
IsTreeBy edges.Packages asked w words plan invert = IsTreeAnswer asked.arguments.format asked.targets w plan invert asked.arguments.depth
IsTreeBy edges.Features asked w words plan invert = IsFeatureTreeAnswer asked.arguments.format w words plan invert asked.arguments.depth

-- The message about the word of `tree`.
abbrev pub IsNoTreeBy : Edges → WorkspaceText → WordsText → Option Text → Text → Type 0
IsNoTreeBy edges.Packages w words invert = IsTreeRefusal w.packages invert
IsNoTreeBy edges.Features w words invert = IsFeatureTreeRefusal w words invert

-- The answer to `dot`, whose nodes are packages or features.
abbrev pub IsDotBy : Edges → List FileText → WorkspaceText → WordsText → PlanText → AnswerText → Type 0
IsDotBy edges.Packages files w words plan = IsPositive (IsPackageDot (target_names files) w.packages plan)
IsDotBy edges.Features files w words plan = IsFeatureDotAnswer w words plan
