-- What built parts contain.
use Rattle.std.specs.Prelude.{ℕ, List, Bool, false, ◌&&◌, Option, None, slice_index_or}
use Rattle.feature_labels.specs.Names.{LabelName}
use Rattle.plan_rows.specs.declared.side.Side.{Side}
use Rattle.plan_rows.specs.declared.side.Side.TheVariants.{Target, Host}
use Rattle.plan_starts.specs.PackageVisits.{is_on}
use Rattle.cargo_plans.specs.built_parts.Built.{state_if}
use Rattle.cargo_plans.specs.declared.built_parts.built_parts.BuiltParts.{BuiltParts}
use Rattle.cargo_plans.specs.declared.built_parts.scripts.LackingScripts.{LackingScripts}
use Rattle.cargo_plans.specs.declared.built_parts.state.PartState.{PartState}

-- The flag at a number; false past the end.
abbrev pub flag_at : List Bool → ℕ → Bool
flag_at flags k = slice_index_or flags k false

-- Whether a package is built on a side.
abbrev pub builds_in : BuiltParts → Side → ℕ → Bool
builds_in b Target p = flag_at b.target.items p
builds_in b Host p = flag_at b.host.items p

-- Whether a part is built on a side.
abbrev pub is_built_in : BuiltParts → Side → ℕ → LabelName → Bool
is_built_in b side p label = is_on b.on.now side p label && builds_in b side p

-- The state of a part on a side.
abbrev pub state_in : BuiltParts → Side → ℕ → LabelName → PartState
state_in b side p label = state_if (is_on b.on.now side p label) (builds_in b side p)

-- The slot of a number; None past the end.
abbrev pub slot_at : List (Option ℕ) → ℕ → Option ℕ
slot_at slots k = slice_index_or slots k None

-- The first package that lacks a build script for a package.
abbrev pub script_in : LackingScripts → ℕ → Option ℕ
script_in s q = slot_at s.first.items q
