use Rattle.std.proofs.Common.{◌≡◌, ◌++◌, drop, map}
use Rattle.cargo_plans.specs.plan_units.UnitViews.{unit_text}
use Rattle.plan_whys.specs.links.inner.Pairs.{capped_entry}
use Rattle.plan_whys.proofs.links.units.capped_entries.Given as goal

abbrev pub invariant-loop-unit : goal.invariant-loop-unit
invariant-loop-unit l =
    map (capped_entry l.count) (map unit_text l.units) ≡ l.entries.items ++ map (capped_entry l.count) (map unit_text (drop l.unit-index l.units))
