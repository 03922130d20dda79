-- The text about the edits by which a build is smaller.
use Rattle.std.specs.Prelude.{◌≡◌, List}
use Rattle.cargo_workspaces.specs.Workspaces.{Text, PackageText, WorkspaceText}
use Rattle.feats_slim.specs.edits.cargo_plans.Plans.{WordsText}
use Rattle.toml.specs.Data.{Data}
use Rattle.cargo_manifests.specs.inherited.Inheritances.{inheritance_in}
use Rattle.feats_words.specs.declared.command_arguments.Format.{Format}
use Rattle.feats_words.specs.declared.command_arguments.Format.TheVariants as format
use Rattle.feats_slim.specs.edits.Orders.{SlimText}
use Rattle.feats_slim.specs.edits.Slims.{AreSlimsOf}
use Rattle.feats_slim.specs.edits.cargo_plans.plan_units.Units.{UnitText}
use Rattle.feats_slim.specs.answers.Lines.{slim_lines}
use Rattle.feats_slim.specs.answers.Objects.{slim_objects}

abbrev pub text_by : Format → List PackageText → List SlimText → Text
text_by format.Text packages slims = slim_lines packages slims
text_by format.Json packages slims = slim_objects packages slims

-- The text about the edits of the selected members' declarations, and of what these inherit by the manifests, by which less is built than
-- these units.
pub record IsSlimText (form : Format) (w : WorkspaceText) (manifests : List Data) (words : WordsText) (units : List UnitText) (text : Text) : Type 0 where
  pub slims : List SlimText
  pub are_slims : AreSlimsOf w (inheritance_in w manifests) words units slims
  pub is_text : text ≡ text_by form w.packages slims
