-- Questions about a build.
use Rattle.std.specs.Prelude.{List, map}
use Rattle.cargo_workspaces.specs.Workspaces.{Text}
use Rattle.feats_files.specs.Files.{FileText}
use Rattle.feats_files.specs.FileViews.{file_text}
use Rattle.feats_words.specs.Arguments.{ArgumentsText}
use Rattle.feats_words.specs.Views.{arguments_text}
use Rattle.feats_policies.specs.Rules.{RuleText}
use Rattle.feats_policies.specs.Views.{rule_text}
use Rattle.feats_answers.specs.declared.asked.Asked.{Asked}

-- The arguments of the command, the rules of the policy, the files of the target platforms, and the bytes of the document
-- and of the members' manifests.
pub record AskedText : Type 0 where
  pub arguments : ArgumentsText
  pub rules : List RuleText
  pub targets : List FileText
  pub document : Text
  pub member_manifests : Text

abbrev pub asked_text : Asked → AskedText
asked_text a = record {
  arguments = arguments_text a.arguments.now;
  rules = map rule_text a.rules.now;
  targets = map file_text a.targets.now;
  document = a.document.now;
  member_manifests = a.member_manifests.now;
}
