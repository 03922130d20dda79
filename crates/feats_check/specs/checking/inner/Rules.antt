-- The text that the program prints about some rules of a policy.
use Rattle.std.specs.Prelude.{◌≡◌, List, [], None}
use Rattle.cargo_workspaces.specs.Workspaces.{Text}
use Rattle.feats_policies.specs.Rules.{RuleText}
use Rattle.feats_check.specs.checking.Broken.{ArePrinted, IsFirstMessage, are_any, broken_rules, unchecked_rules}
use Rattle.feats_check.specs.checking.Questions.{PrintedText, QuestionText}
use Rattle.feats_check.specs.checking.Scenes.{SceneText, ScenesText}

-- The scenes of rules that are judged in this one alone.
abbrev pub alone : SceneText → ScenesText
alone scene = record { here = scene; wide = None }

-- Exactly the broken ones of the rules are printed, in their order. Each can be checked.
pub record AreRulesPrinted (asked : QuestionText) (s : ScenesText) (rules : List RuleText) (printed : PrintedText) : Type 0 where
  pub can_be_checked : unchecked_rules s rules ≡ []
  pub are_printed : ArePrinted asked (broken_rules s rules) printed.text
  pub is_broken : printed.is_broken ≡ are_any (broken_rules s rules)

-- The message about the first of the rules that can't be checked.
abbrev pub IsFirstUnchecked : QuestionText → ScenesText → List RuleText → Text → Type 0
IsFirstUnchecked asked s rules message = IsFirstMessage asked (unchecked_rules s rules) message
