-- The spots of nodes, and the reasons by the edges of a table.
use Rattle.std.proofs.Common.{◌≡◌, ◌∙◌, ℕ, ◌-◌, ◌<◌, ◌≤◌, Bool, true, false, ap, sym, subst}
use Rattle.std.specs.Prelude.{nat_lt, if◌then◌else◌}
use Rattle.std.proofs.lemmas.Bool.{le-ltb, lt-ltb}
use Rattle.feature_core.specs.Nodes.{NodeAt}
use Rattle.feature_labels.specs.Names.{LabelName}
use Rattle.cargo_plans.specs.plan_rows.declared.side.Side.TheVariants.{Target, Host}
use Rattle.cargo_plans.specs.plan_starts.PackageVisits.{PairVisit}
use Rattle.plan_starts.specs.step_visits.Visits.{Visit}
use Rattle.plan_whys.specs.Steps.{IsAt, SpotText, spot_at}

pub spot_if : (count k : ℕ) (label : LabelName) (inside : Bool) → nat_lt k count ≡ inside
    → spot_at count k label ≡ (if inside then record { side = Target; number = k; label = label } else record { side = Host; number = k - count; label = label })
spot_if count k label inside is = ap {B = SpotText} (λ b. if b then record { side = Target; number = k; label = label } else record { side = Host; number = k - count; label = label }) is

is_at : (on : PairVisit) (v : Visit) (n k count : ℕ) (label : LabelName) (spot : SpotText) → v ≡ on.visit → count ≡ on.count → NodeAt v.tables n k label → spot_at count k label ≡ spot → IsAt on n spot
is_at on v n k count label spot visit number at is =
    (k, label, subst (λ (u : Visit). NodeAt u.tables n k label) visit at, sym is ∙ ap (λ c. spot_at c k label) number)

pub at_target : (on : PairVisit) (v : Visit) (n k count : ℕ) (label : LabelName) → v ≡ on.visit → count ≡ on.count → NodeAt v.tables n k label → k < count → IsAt on n (record { side = Target; number = k; label = label })
at_target on v n k count label visit number at below = is_at on v n k count label _ visit number at (spot_if count k label true (lt-ltb k count below))

pub at_host : (on : PairVisit) (v : Visit) (n k count : ℕ) (label : LabelName) → v ≡ on.visit → count ≡ on.count → NodeAt v.tables n k label → count ≤ k → IsAt on n (record { side = Host; number = k - count; label = label })
at_host on v n k count label visit number at past = is_at on v n k count label _ visit number at (spot_if count k label false (le-ltb k count past))
