-- Broken rules, each with the explanations of what breaks it.
use Rattle.std.specs.Prelude.{List, [], ◌∷◌, ◌++◌, flat_map, Option, Some, None, codes}
use Rattle.json.specs.Token.{Token, begin_array, begin_object, end_array, key}
use Rattle.cargo_plans.specs.Plans.{WordsText}
use Rattle.cargo_workspaces.specs.Workspaces.{PackageText, Text}
use Rattle.feats_words.specs.declared.command_arguments.Format.{Format}
use Rattle.feats_words.specs.declared.command_arguments.Format.TheVariants as format
use Rattle.feats_lines.specs.parts.Members.{object_line}
use Rattle.plan_whys.specs.Steps.{WhyText}
use Rattle.feats_policies.specs.Rules.{RuleText}
use Rattle.feats_check.specs.texts.Lines.{verdict_lines}
use Rattle.feats_check.specs.texts.Objects.{rule_members}
use Rattle.feats_policies.specs.declared.checks.judged.Judged.{Judged}
use Rattle.feats_check.specs.checking.Questions.{QuestionText}
use Rattle.feats_why.specs.Lines.{why_lines}
use Rattle.feats_why.specs.Objects.{step_objects}
use Rattle.feats_why.specs.Settings.{settings_of}

-- The lines of an explanation; none, if there is none.
abbrev pub steps_lines : List PackageText → WordsText → List WhyText → Text
steps_lines packages words steps = why_lines packages (settings_of words) steps

abbrev pub found_lines : List PackageText → WordsText → Option (List WhyText) → Text
found_lines packages words None = []
found_lines packages words (Some steps) = steps_lines packages words steps

-- The same after an empty line.
abbrev pub after_gap : List PackageText → WordsText → Option (List WhyText) → Text
after_gap packages words found = 10 ∷ found_lines packages words found

-- The lines of explanations, with an empty line between two of them.
abbrev pub whys_lines : List PackageText → WordsText → List (Option (List WhyText)) → Text
whys_lines packages words [] = []
whys_lines packages words (first ∷ others) = found_lines packages words first ++ flat_map (after_gap packages words) others

-- The array of an explanation; none, if there is none.
abbrev pub steps_tokens : List PackageText → WordsText → List WhyText → List Token
steps_tokens packages words steps = step_objects packages (settings_of words) steps

abbrev pub steps_array : List PackageText → WordsText → List WhyText → List Token
steps_array packages words steps = begin_array ∷ (steps_tokens packages words steps ++ end_array ∷ [])

abbrev pub found_array : List PackageText → WordsText → Option (List WhyText) → List Token
found_array packages words None = []
found_array packages words (Some steps) = steps_array packages words steps

-- The member with an array for each explanation.
abbrev pub whys_member : List PackageText → WordsText → List (Option (List WhyText)) → List Token
whys_member packages words founds = key (codes "whys") ∷ begin_array ∷ (flat_map (found_array packages words) founds ++ end_array ∷ [])

abbrev pub text_by : Format → Text → Judged → List PackageText → WordsText → RuleText → List (Option (List WhyText)) → Text
text_by format.Text file judged packages words r founds = verdict_lines file judged r (whys_lines packages words founds)
text_by format.Json file judged packages words r founds = object_line (begin_object ∷ (rule_members judged r ++ whys_member packages words founds))

-- The text of a broken rule that is judged there, with these explanations of what breaks it.
abbrev pub rule_text : QuestionText → Judged → List PackageText → WordsText → RuleText → List (Option (List WhyText)) → Text
rule_text asked judged packages words r founds = text_by asked.format asked.file judged packages words r founds
