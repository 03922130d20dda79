-- The spots that are built, and those that are on and not built.
use Rattle.std.specs.Prelude.{ℕ, List, [], Bool, true, false, Option, filter, map}
use Rattle.feature_labels.specs.Names.{LabelName}
use Rattle.cargo_plans.specs.built_parts.Scripts.{lacking_script}
use Rattle.cargo_plans.specs.declared.built_parts.state.PartState.{PartState}
use Rattle.cargo_plans.specs.declared.built_parts.state.PartState.TheVariants.{Off, Unbuilt, Built}
use Rattle.cargo_workspaces.specs.Workspaces.{Text, PackageText}
use Rattle.cargo_plans.specs.Plans.{WordsText}
use Rattle.plan_rows.specs.declared.side.Side.{Side}
use Rattle.plan_whys.specs.Steps.{SpotText}
use Rattle.feats_why.specs.Unbuilt.{UnbuiltText, unbuilt_lines}
use Rattle.feats_words.specs.declared.command_arguments.Format.{Format}
use Rattle.feats_words.specs.declared.command_arguments.Format.TheVariants as format

abbrev pub is_same_state : PartState → PartState → Bool
is_same_state Off Off = true
is_same_state Unbuilt Unbuilt = true
is_same_state Built Built = true
is_same_state _ _ = false

-- The spots whose state is the wanted one. `state` is that of a part of a package on a side.
abbrev pub spots_in : (Side → ℕ → LabelName → PartState) → PartState → List SpotText → List SpotText
spots_in state wanted spots = filter (λ s. is_same_state (state s.side s.number s.label) wanted) spots

-- A spot with the package that lacks a build script for the spot's package.
abbrev pub with_script : (ℕ → Option ℕ) → SpotText → UnbuiltText
with_script lacking s = record { spot = s; lacking = lacking s.number }

-- The lines about spots that are on and not built. `built` is whether a part of a package is built on a side.
abbrev pub lines_of : List PackageText → WordsText → (Side → ℕ → LabelName → Bool) → List SpotText → Text
lines_of packages words built unbuilt = unbuilt_lines packages words.selection.split (map (with_script (lacking_script built words.host packages)) unbuilt)

-- The lines about those of the spots that are on and not built. JSON has no objects for them.
abbrev pub unbuilt_text_of : Format → List PackageText → WordsText → (Side → ℕ → LabelName → PartState) → (Side → ℕ → LabelName → Bool) → List SpotText → Text
unbuilt_text_of format.Text packages words state built spots = lines_of packages words built (spots_in state Unbuilt spots)
unbuilt_text_of format.Json packages words state built spots = []
