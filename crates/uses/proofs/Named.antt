-- Reach from the nodes of one name, and from nodes with a property.
use Rattle.std.proofs.Common.{◌≡◌, ℕ, zero, suc, Bool, true, false, not, ◌&&◌, List, [], ◌∷◌, Some, refl, subst}
use Rattle.std.specs.Prelude.{◌↔◌, IsTrue, slice_get}
use Rattle.guppy_features.specs.digraphs.Bits.{has}
use Rattle.guppy_features.specs.guppy_packages.Rows.{Text}
use Rattle.guppy_features.specs.guppy_packages.Tables.{Tables}
use Rattle.guppy_features.specs.guppy_packages.declared.direction.DependencyDirection.{DependencyDirection}
use Rattle.guppy_features.specs.feature_labels.Names.{LabelName}
use Rattle.guppy_features.specs.feature_core.Built.{NodeNamed}
use Rattle.guppy_features.specs.feature_core.Pairs.{Along, LeadsTo, Reach}
use Rattle.guppy_features.specs.feature_graph.Names.{HoldsExactly}
use Rattle.guppy_features.specs.feature_graph.Values.{Query}

-- The only name of a list of one.
only : (name other : Text × LabelName) (k : ℕ) → slice_get (name ∷ []) k ≡ Some other → other ≡ name
only name other zero h = cc
only name other (suc k) h = cc

pub named_alone : (t : Tables) (name : Text × LabelName) (members : List Bool) → HoldsExactly t members (name ∷ []) → (n : ℕ) → IsTrue (has members n) ↔ NodeNamed t n name
named_alone t name members exact n = (
  (λ h. let among = (exact.exact n).0 h in subst (NodeNamed t n) (only name among.1 among.0 among.2) among.3),
  (λ h. (exact.exact n).1 (0, name, refl, h)),
)

-- If the initial nodes are those of S, a reached node is at the end of a path from one of S.
pub reached_from : (t : Tables) (d : DependencyDirection) (S : ℕ → Type 0) (q : Query) (members : List Bool) → q.graph.tables ≡ t → q.direction ≡ d → ((n : ℕ) → IsTrue (has q.initials n) ↔ S n)
    → ((n : ℕ) → IsTrue (has members n) ↔ Reach q.graph.tables q.direction (has q.initials) n) → (n : ℕ) → IsTrue (has members n) ↔ ((m : ℕ) × S m × Along (LeadsTo t d) m n)
reached_from t d S q members graph direction exact reach n =
    let R : Tables → DependencyDirection → Type 0 = λ u e. IsTrue (has members n) ↔ Reach u e (has q.initials) n in
    let here : R t d = subst (λ e. R t e) direction (subst (λ u. R u q.direction) graph (reach n)) in (
      (λ h. let end = here.0 h in (end.0, (exact end.0).0 end.1, end.2)),
      (λ h. here.1 (h.0, (exact h.0).1 h.1, h.2)),
    )

-- The nodes of the first set that aren't in the second.
pub without : (a b c : Bool) (P Q : Type 0) → c ≡ (a && not b) → IsTrue a ↔ P → IsTrue b ↔ Q → IsTrue c ↔ (P × ¬ Q)
without true true c P Q same p q = ((λ h. cc), (λ h. absurd (h.1 (q.0 refl))))
without true false c P Q same p q = ((λ h. (p.0 refl, λ r. let clash : false ≡ true = q.1 r in cc)), (λ h. same))
without false b c P Q same p q = ((λ h. cc), (λ h. let clash : false ≡ true = p.1 h.0 in cc))
