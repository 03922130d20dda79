-- Questions about policies.
use Rattle.std.specs.Prelude.{List, Bool, Option}
use Rattle.cargo_workspaces.specs.Workspaces.{Text}
use Rattle.feats_words.specs.declared.command_arguments.Format.{Format}
use Rattle.feats_policies.specs.Rules.{RuleText}

-- The form of the answer, the path of the policy and its rules, and the triples of the host and of the target platforms. For every choice,
-- `every` is which platform specs hold on every platform.
pub record QuestionText : Type 0 where
  pub format : Format
  pub file : Text
  pub rules : List RuleText
  pub host : Text
  pub targets : List Text
  pub every : Option (Text → Bool)

-- What is printed, and whether a rule is broken.
pub record PrintedText : Type 0 where
  pub text : Text
  pub is_broken : Bool
