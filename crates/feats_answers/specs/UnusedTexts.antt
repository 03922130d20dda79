-- The text about features that nothing uses, and items that turn nothing on.
use Rattle.std.specs.Prelude.{◌≡◌, List}
use Rattle.cargo_workspaces.specs.Workspaces.{PackageText, Text, WorkspaceText}
use Rattle.feats_unused.specs.Lines.{unused_lines}
use Rattle.feats_unused.specs.Objects.{unused_objects}
use Rattle.feats_unused.specs.Shown.{AreLines, ShownText}
use Rattle.feats_words.specs.declared.command_arguments.Format.{Format}
use Rattle.feats_words.specs.declared.command_arguments.Format.TheVariants as format

abbrev pub unused_text : Format → List PackageText → List ShownText → Text
unused_text format.Text packages shown = unused_lines packages shown
unused_text format.Json packages shown = unused_objects shown

-- The text has the lines of the workspace's members.
pub record IsUnusedText (form : Format) (w : WorkspaceText) (text : Text) : Type 0 where
  pub shown : List ShownText
  pub are_lines : AreLines w shown
  pub is_text : text ≡ unused_text form w.packages shown
