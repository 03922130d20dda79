-- Units at which a visit starts.
use Rattle.std.specs.Prelude.{ℕ, List, Bool, false}
use Rattle.std.specs.Option.{option_map_or}
use Rattle.feature_labels.specs.Names.LabelName.{base}
use Rattle.cargo_plans.specs.plan_units.Units.{UnitText}
use Rattle.plan_starts.specs.step_visits.Visits.{Visit, node_at}
use Rattle.plan_whys.specs.links.Links.{indexes_of}
use Rattle.plan_whys.specs.links.UnitLinks.{entry_of}

-- Whether the node of a unit, of `count` packages, is one of `starts`.
abbrev pub starts_at : Visit → ℕ → (ℕ → Bool) → UnitText → Bool
starts_at built count starts u = option_map_or starts (node_at built.tables (entry_of count u) base) false

-- The numbers of these units.
abbrev pub starting : Visit → ℕ → (ℕ → Bool) → List UnitText → List ℕ
starting built count starts units = indexes_of (starts_at built count starts) units
