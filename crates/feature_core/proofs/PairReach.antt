-- Reach over pairs and over candidates.
use Rattle.std.proofs.Common.{ℕ, List, Bool}
use Rattle.std.specs.Prelude.{◌↔◌}
use Rattle.feature_edges.specs.guppy_packages.Tables.{Tables}
use Rattle.feature_edges.specs.guppy_packages.declared.direction.DependencyDirection.{DependencyDirection}
use Rattle.feature_edges.specs.guppy_packages.declared.direction.DependencyDirection.TheVariants.{Forward, Reverse}
use Rattle.feature_edges.specs.Pairs.{ReachAlong, Reach, PairLeads, LeadsTo, IsPairList}
use Rattle.feature_core.specs.Built.{Built, IsBuilt, ends_of}
use Rattle.guppy_support.proofs.AlongLemmas.{along_weaker}

-- a pair of the list leads if and only if a candidate does
pub leads_alike : (t : Tables) (pairs : List (ℕ × ℕ)) (direction : DependencyDirection) → IsPairList t pairs → (u w : ℕ) → PairLeads pairs direction u w ↔ LeadsTo t direction u w
leads_alike t pairs Forward h u w = h.exact u w
leads_alike t pairs Reverse h u w = h.exact w u

pub reach_alike : (t : Tables) (b : Built) (direction : DependencyDirection) (initials : ℕ → Bool) (n : ℕ) → IsBuilt t b → ReachAlong (PairLeads (ends_of b.edges) direction) initials n ↔ Reach t direction initials n
reach_alike t b direction initials n h = (
  (λ r. (r.0, r.1, along_weaker (λ u w. (leads_alike t (ends_of b.edges) direction h.pairs u w).0) r.2)),
  (λ r. (r.0, r.1, along_weaker (λ u w. (leads_alike t (ends_of b.edges) direction h.pairs u w).1) r.2)),
)

-- the reach over the pairs is the reach over the edges
pub member_alike : (t : Tables) (b : Built) (direction : DependencyDirection) (initials : ℕ → Bool) (n : ℕ) (P : Type 0) → IsBuilt t b → (P ↔ ReachAlong (PairLeads (ends_of b.edges) direction) initials n) → (P ↔ Reach t direction initials n)
member_alike t b direction initials n P h both =
    let r = reach_alike t b direction initials n h in
    ((λ p. r.0 (both.0 p)), (λ q. both.1 (r.1 q)))
