-- What a plan and an answer are made from, besides the document.
use Rattle.std.specs.Prelude.{List, [], ◌∷◌, codes, map}
use Rattle.cargo_workspaces.specs.Workspaces.{Text}
use Rattle.feats_words.specs.Arguments.{ArgumentsText}
use Rattle.feats_words.specs.Views.{arguments_text}
use Rattle.feats_words.specs.declared.command_arguments.CommandArguments.{CommandArguments}
use Rattle.feats_files.specs.Files.{FileText}
use Rattle.feats_files.specs.FileViews.{file_text}
use Rattle.feats_files.specs.Messages.{joined}
use Rattle.feats_plans.specs.declared.inputs.PlanFiles.{PlanFiles}

-- The arguments, and the content of the files that they name.
pub record InputsText : Type 0 where
  pub arguments : ArgumentsText
  pub manifest : Text
  pub host : FileText
  pub targets : List FileText
  pub policy : Text
  pub member_manifests : Text

abbrev pub inputs_text : CommandArguments → PlanFiles → InputsText
inputs_text a f = record {
  arguments = arguments_text a;
  manifest = f.manifest.items;
  host = file_text f.host;
  targets = map file_text f.targets.items;
  policy = f.policy.items;
  member_manifests = f.member_manifests.items;
}

-- The message if the file at a path can't be read.
abbrev pub unread_message : Text → Text
unread_message path = joined (codes "cannot read `" ∷ path ∷ codes "`" ∷ [])
