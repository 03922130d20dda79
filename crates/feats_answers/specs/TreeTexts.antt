-- The trees of what depends on what.
use Rattle.std.specs.Prelude.{◌≡◌, ℕ, List, [], ◌∷◌, Option, None, Some, Ok, codes}
use Rattle.cargo_workspaces.specs.Workspaces.{Text, PackageText, WorkspaceText}
use Rattle.feats_files.specs.Files.{FileText}
use Rattle.feats_words.specs.declared.command_arguments.Format.{Format}
use Rattle.plan_names.specs.Faults.{package_named}
use Rattle.cargo_plans.specs.plan_steps.Plans.{PlanText}
use Rattle.feats_tree.specs.packages.Trees.{IsInvertedTree, IsPackageTree}
use Rattle.feats_answers.specs.AnswerTexts.{AnswerText, IsPositive, negative, positive}
use Rattle.feats_answers.specs.Gathered.{no_line}
use Rattle.feats_answers.specs.NameMessages.{IsNameRefusal}
use Rattle.feats_answers.specs.PlanTexts.{target_names}

abbrev pub unbuilt_end : Text
unbuilt_end = codes " isn't built\n"

-- The answer with these trees of what the word names: if there is none, it says that it isn't built.
abbrev pub inverted_answer : Format → Text → Text → AnswerText
inverted_answer form word [] = negative (no_line form word unbuilt_end)
inverted_answer form word (c ∷ cs) = positive (c ∷ cs)

-- The answer with the inverted trees of the package that the word names.
pub record IsInvertedAnswer (form : Format) (files : List FileText) (w : WorkspaceText) (plan : PlanText) (word : Text) (depth : Option ℕ) (answer : AnswerText) : Type 0 where
  pub number : ℕ
  pub is_named : package_named w.packages word ≡ Ok number
  pub trees : Text
  pub are_trees : IsInvertedTree form (target_names files) w.packages plan number depth trees
  pub is_answer : answer ≡ inverted_answer form word trees

-- The answer to `tree`: what the started packages depend on, or what depends on the package that the word names.
abbrev pub IsTreeAnswer : Format → List FileText → WorkspaceText → PlanText → Option Text → Option ℕ → AnswerText → Type 0
IsTreeAnswer form files w plan None depth = IsPositive (IsPackageTree form (target_names files) w.packages plan depth)
IsTreeAnswer form files w plan (Some word) depth = IsInvertedAnswer form files w plan word depth

-- The message about a word that names no package, or several.
abbrev pub IsTreeRefusal : List PackageText → Option Text → Text → Type 0
IsTreeRefusal packages None = λ _. ⊥
IsTreeRefusal packages (Some word) = IsNameRefusal packages (package_named packages word)
