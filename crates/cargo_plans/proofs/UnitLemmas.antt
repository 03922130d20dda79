-- What is built for target platforms, one after the other.
use Rattle.std.proofs.Common.{◌≡◌, ℕ, suc, ◌+◌, ◌-◌, ◌*◌, ◌<◌, List, ◌++◌, length, ap, sym, ◌∙◌, subst, arith, append_assoc}
use Rattle.std.proofs.Math.Nat.{suc-mul}
use Rattle.cargo_workspaces.specs.Workspaces.{PackageText}
use Rattle.plan_rows.specs.declared.side.Side.TheVariants as side
use Rattle.plan_starts.specs.PackageVisits.{PairVisit}
use Rattle.plan_starts.specs.step_visits.Visits.{Visit}
use Rattle.cargo_plans.specs.plan_units.Units.{UnitText, target_units, units_at}
use Rattle.cargo_plans.specs.declared.plan_units.unit.Place.TheVariants.{Target}

-- one more target
pub targets_step : (on : PairVisit) (built : Visit) (packages : List PackageText) (k first n many few : ℕ) (all r0 r1 : List UnitText) → many ≡ suc few → length packages ≡ n → all ≡ r0 ++ target_units on built packages k first many
    → r1 ≡ r0 ++ units_at on built (Target k) side.Target first packages → all ≡ r1 ++ target_units on built packages (k + 1) (first + n) few
targets_step on built packages k first n many few all r0 r1 e long is pushed =
    let here = units_at on built (Target k) side.Target first packages in
    is ∙ ap (λ m. r0 ++ target_units on built packages k first m) e
    ∙ sym (append_assoc r0 here (target_units on built packages (k + 1) (first + length packages) few))
    ∙ ap (λ z. z ++ target_units on built packages (k + 1) (first + length packages) few) (sym pushed)
    ∙ ap (λ m. r1 ++ target_units on built packages (k + 1) (first + m) few) long

-- the room for the targets after the next one
pub room_step : (first n many few total : ℕ) → many ≡ suc few → first + many * n ≡ total → first + n + few * n ≡ total
room_step first n many few total e h = go (few * n) (subst (λ z. first + z ≡ total) (suc-mul few n) (subst (λ z. first + z * n ≡ total) e h))
  where
    go : (m : ℕ) → first + (m + n) ≡ total → first + n + m ≡ total
    go m h = omega (arith, h)

-- there is room for the next one
pub room_here : (first n many few total limit : ℕ) → many ≡ suc few → first + many * n ≡ total → total < limit → first + n < limit
room_here first n many few total limit e h below = go (few * n) (room_step first n many few total e h)
  where
    go : (m : ℕ) → first + n + m ≡ total → first + n < limit
    go m h = omega (arith, h, below)
