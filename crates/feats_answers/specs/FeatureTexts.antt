-- The trees and the graph of the features that are on.
use Rattle.std.specs.Prelude.{◌≡◌, ℕ, List, [], ◌∷◌, flat_map, Option, None, Some}
use Rattle.cargo_workspaces.specs.Workspaces.{Text, PackageText, WorkspaceText}
use Rattle.cargo_plans.specs.Plans.{WordsText}
use Rattle.feats_words.specs.declared.command_arguments.Format.{Format}
use Rattle.feats_tree.specs.features.Dots.{IsFeatureDot}
use Rattle.feats_tree.specs.features.Trees.{IsFeatureTree, IsInvertedFeatureTree}
use Rattle.plan_names.specs.Names.{NamedText}
use Rattle.cargo_plans.specs.plan_steps.Plans.{PlanText}
use Rattle.feats_answers.specs.AnswerTexts.{AnswerText, IsPositive, negative, positive}
use Rattle.feats_answers.specs.Gathered.{no_line}
use Rattle.feats_answers.specs.Parts.{ArePartsOf, IsPartRefusal, title_of}
use Rattle.feats_answers.specs.WhyTexts.{off_end, spots_of_part}

-- The answer with these trees of the parts that a word names: if there is none, it says that the word is off.
abbrev pub answer_of_trees : Format → List PackageText → Text → List NamedText → Text → AnswerText
answer_of_trees form packages word parts [] = negative (no_line form (title_of packages word parts) off_end)
answer_of_trees form packages word parts (c ∷ cs) = positive (c ∷ cs)

-- The answer with the trees of what turns on the parts that the word names, on both sides.
pub record IsInvertedFeatureAnswer (form : Format) (w : WorkspaceText) (words : WordsText) (plan : PlanText) (word : Text) (depth : Option ℕ) (answer : AnswerText) : Type 0 where
  pub parts : List NamedText
  pub are_parts : ArePartsOf w words word parts
  pub trees : Text
  pub are_trees : IsInvertedFeatureTree form words.selection.split w.packages plan (flat_map spots_of_part parts) depth trees
  pub is_answer : answer ≡ answer_of_trees form w.packages word parts trees

-- The answer to `tree --edges features`: what the command line turns on turns on, or what turns on the parts that the word names. The side is
-- shown, if the resolver tells sides apart.
abbrev pub IsFeatureTreeAnswer : Format → WorkspaceText → WordsText → PlanText → Option Text → Option ℕ → AnswerText → Type 0
IsFeatureTreeAnswer form w words plan None depth = IsPositive (IsFeatureTree form words.selection.split w.packages plan depth)
IsFeatureTreeAnswer form w words plan (Some word) depth = IsInvertedFeatureAnswer form w words plan word depth

-- The message about a word that names no part, or several packages' parts.
abbrev pub IsFeatureTreeRefusal : WorkspaceText → WordsText → Option Text → Text → Type 0
IsFeatureTreeRefusal w words None = λ _. ⊥
IsFeatureTreeRefusal w words (Some word) = IsPartRefusal w words word

-- The answer to `dot --edges features`.
abbrev pub IsFeatureDotAnswer : WorkspaceText → WordsText → PlanText → AnswerText → Type 0
IsFeatureDotAnswer w words plan = IsPositive (IsFeatureDot words.selection.split w.packages plan)
