use Rattle.std.proofs.Common.{◌≡◌, ◌++◌, ◌∷◌, [], ℕ, drop, if◌then◌else◌, map}
use Rattle.digraphs.specs.Bits.{has}
use Rattle.cargo_plans.specs.plan_starts.Lists.{joined_from}
use Rattle.cargo_plans.specs.plan_units.Units.{UnitText}
use Rattle.cargo_plans.specs.plan_units.UnitViews.{unit_text}
use Rattle.plan_whys.specs.links.inner.Starting.{starting, starts_at}
use Rattle.plan_whys.proofs.links.units.roots_of.Given as goal

abbrev pub invariant-loop-number : goal.invariant-loop-number
invariant-loop-number l =
    let test = starts_at l.built l.count (has l.starts) in
    starting l.built l.count (has l.starts) (map unit_text l.units)
    ≡ l.roots.items ++ joined_from (λ (k : ℕ) (u : UnitText). if test u then k ∷ [] else []) l.number (map unit_text (drop l.number l.units))
