-- The truth of an expression, by a walk over its parts from first to last.
use Rattle.std.specs.Prelude.{ℕ, ◌+◌, ◌-◌, Bool, true, false, not, ◌==◌, List, [], ◌∷◌, if◌then◌else◌}
use Rattle.platform_specs.specs.Facts.{FactText}
use Rattle.platform_specs.specs.Truth.{is_known}
use Rattle.platform_specs.specs.declared.parts.Operator.{Operator}
use Rattle.platform_specs.specs.declared.parts.Operator.TheVariants.{All, Any, Not}
use Rattle.platform_specs.specs.declared.parts.Part.{Part}
use Rattle.platform_specs.specs.declared.parts.Part.TheVariants.{Open, Constant, Fact, Join, Close}
use Rattle.platform_specs.specs.declared.walk.Walk.{Walk}

-- the truth so far, with nothing skipped
abbrev pub walking : Bool → Walk
walking value = record { value = value; skipped = 0 }

-- the truth of the operator is decided, and its remaining parts are skipped up to its `Close`
abbrev pub skipping : Bool → Walk
skipping value = record { value = value; skipped = 1 }

abbrev pub at_join : Operator → Bool → Walk
at_join All true = walking true
at_join All false = skipping false
at_join Any true = skipping true
at_join Any false = walking false
at_join Not value = walking (not value)

-- the truth of an operator without parts
abbrev pub at_open : Operator → Bool
at_open All = true
at_open Any = false
at_open Not = true

abbrev pub read_part : List FactText → Part → Bool → Walk
read_part known (Open op) value = walking (at_open op)
read_part known (Constant b) value = walking b
read_part known (Fact f) value = walking (is_known known f)
read_part known (Join op) value = at_join op value
read_part known Close value = walking value

-- the number of `Close` parts to skip to, after one more part
abbrev pub skip_part : Part → ℕ → ℕ
skip_part (Open op) n = n + 1
skip_part (Constant b) n = n
skip_part (Fact f) n = n
skip_part (Join op) n = n
skip_part Close n = n - 1

abbrev pub walk_step : List FactText → Part → Walk → Walk
walk_step known p w =
    if w.skipped == 0 then read_part known p w.value else record { value = w.value; skipped = skip_part p w.skipped }

abbrev pub walk_over : List FactText → List Part → Walk → Walk
walk_over known [] w = w
walk_over known (p ∷ ps) w = walk_over known ps (walk_step known p w)
