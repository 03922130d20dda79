-- The text about the features of a package.
use Rattle.std.specs.Prelude.{◌≡◌, ℕ, Bool, Ok, Some, slice_get}
use Rattle.feature_labels.specs.Names.{LabelName}
use Rattle.cargo_plans.specs.built_parts.Built.{is_part_built}
use Rattle.cargo_workspaces.specs.Workspaces.{Text, PackageText, WorkspaceText}
use Rattle.feats_list.specs.features.Lines.{feature_lines}
use Rattle.feats_list.specs.features.Objects.{feature_objects}
use Rattle.plan_names.specs.Faults.{package_named}
use Rattle.plan_rows.specs.declared.side.Side.{Side}
use Rattle.cargo_plans.specs.plan_steps.Plans.{PlanText}
use Rattle.feats_words.specs.declared.command_arguments.Format.{Format}
use Rattle.feats_words.specs.declared.command_arguments.Format.TheVariants as format

-- The text about package `p`. `built side p label` is whether a part of it is built on a side.
abbrev pub feature_text : Format → (Side → ℕ → LabelName → Bool) → ℕ → PackageText → Text
feature_text format.Text built p x = feature_lines built p x
feature_text format.Json built p x = feature_objects built p x

-- The text about the package that a word names: its features are on where they are built.
pub record IsListText (form : Format) (w : WorkspaceText) (split : Bool) (plan : PlanText) (word text : Text) : Type 0 where
  pub number : ℕ
  pub described : PackageText
  pub is_named : package_named w.packages word ≡ Ok number
  pub is_package : slice_get w.packages number ≡ Some described
  pub is_text : text ≡ feature_text form (is_part_built split plan) number described
