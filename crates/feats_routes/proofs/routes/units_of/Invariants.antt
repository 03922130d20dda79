use Rattle.std.proofs.Common.{◌≡◌, ◌++◌, ◌∷◌, [], ℕ, drop, map}
use Rattle.std.specs.Prelude.{◌==◌, if◌then◌else◌}
use Rattle.cargo_plans.specs.plan_starts.Lists.{joined_from}
use Rattle.cargo_plans.specs.plan_units.Units.{UnitText}
use Rattle.cargo_plans.specs.plan_units.UnitViews.{unit_text}
use Rattle.feats_tree.specs.packages.Trees.{units_of}
use Rattle.feats_routes.proofs.routes.units_of.Given as goal

abbrev pub invariant-loop-number : goal.invariant-loop-number
invariant-loop-number l =
    units_of l.«package» (map unit_text l.units)
    ≡ l.found.items ++ joined_from (λ (k : ℕ) (u : UnitText). if u.number == l.«package» then k ∷ [] else []) l.number (map unit_text (drop l.number l.units))
