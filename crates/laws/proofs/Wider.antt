-- Larger settings turn nothing off.
use Rattle.std.proofs.Common.{◌≡◌, true, sym, subst}
use Rattle.cargo_plans.specs.plan_starts.PackageVisits.{PairVisit, is_on}
use Rattle.laws.specs.plans.Widening.{LargerTurnsNothingOff}
use Rattle.laws.proofs.MoreSteps.{on_grows}

pub larger_turns_nothing_off : LargerTurnsNothingOff
larger_turns_nothing_off w s t selected others p q is grow a b side k label h =
    let there = subst (λ (v : PairVisit). is_on v side k label ≡ true) a.holds.0 h in
    subst (λ (v : PairVisit). is_on v side k label ≡ true) (sym b.holds.0)
    (on_grows w is s t grow a.kept b.kept a.is_resolved b.is_resolved a.on b.on a.is_turned_on b.is_turned_on side k label there)
