-- Visits of a step in which each package has two entries.
use Rattle.std.specs.Prelude.{ℕ, ◌+◌, Bool, true, false, nat_lt, ◌&&◌, ◌||◌, if◌then◌else◌}
use Rattle.feature_labels.specs.Names.{LabelName}
use Rattle.feature_labels.specs.Names.LabelName.{optional}
use Rattle.cargo_workspaces.specs.Workspaces.{Text}
use Rattle.plan_rows.specs.Steps.{is_host}
use Rattle.plan_rows.specs.declared.side.Side.{Side}
use Rattle.plan_starts.specs.step_visits.Visits.{Visit, reaches}

-- A visit of `count` packages: package `p` is entry `p`, and entry `count + p`.
pub record PairVisit : Type 0 where
  pub count : ℕ
  pub visit : Visit

-- The number of the first of these entries.
abbrev pub first_entry : Bool → ℕ → ℕ
first_entry second count = if second then count else 0

-- Whether the visit reached a label at an entry of package `p`; false, if there is no such package.
abbrev pub reaches_at : PairVisit → Bool → ℕ → LabelName → Bool
reaches_at v second p label = nat_lt p v.count && reaches v.visit (first_entry second v.count + p) label

-- Step `resolved`: whether the optional dependency `name` of package `p` is turned on, as a dependency of others or as a started one.
abbrev pub is_kept : PairVisit → ℕ → Text → Bool
is_kept v p name = reaches_at v false p (optional name) || reaches_at v true p (optional name)

-- Step `on`: whether a label of package `p` is on, on a side.
abbrev pub is_on : PairVisit → Side → ℕ → LabelName → Bool
is_on v side p label = reaches_at v (is_host side) p label
