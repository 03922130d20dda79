-- Visits of packages with two entries.
use Rattle.std.proofs.Common.{◌≡◌, ◌∙◌, ℕ, ◌+◌, ◌<◌, Bool, true, ◌&&◌, ap, sym}
use Rattle.std.specs.Prelude.{nat_lt}
use Rattle.std.proofs.lemmas.Bool.{lt-ltb}
use Rattle.feature_labels.specs.Names.{LabelName}
use Rattle.plan_starts.specs.step_visits.Visits.{reaches}
use Rattle.plan_starts.specs.PackageVisits.{PairVisit, first_entry, reaches_at}

below : (p n : ℕ) → p < n → nat_lt p n ≡ true
below p n h = lt-ltb p n h

-- an entry of a package that is there
pub reached_within : (v : PairVisit) (second : Bool) (p first : ℕ) (label : LabelName) (answer : Bool) → p < v.count → first ≡ first_entry second v.count → answer ≡ reaches v.visit (first + p) label → answer ≡ reaches_at v second p label
reached_within v second p first label answer within e is =
    is ∙ ap (λ n. reaches v.visit (n + p) label) e ∙ ap (λ b. b && reaches v.visit (first_entry second v.count + p) label) (sym (below p v.count within))
