-- The packages of a set, marked one by one.
use Rattle.std.proofs.Common.{◌≡◌, ℕ, zero, suc, ◌+◌, ◌<◌, ◌⊎◌, inl, inr, ⊎_elim, Bool, false, List, length, ap, sym, ◌∙◌, subst, arith, replicate}
use Rattle.std.specs.Prelude.{◌↔◌, IsTrue}
use Rattle.std.proofs.lemmas.List.{length-replicate}
use Rattle.digraphs.specs.Bits.{has}
use Rattle.guppy_packages.specs.Tables.{Tables}
use Rattle.feature_graph.specs.MemberPackages.{AreMemberPackages}
use Rattle.feature_graph.specs.Packages.{has_member_of}
use Rattle.feature_graph.specs.inner.Sorting.{IsPut}

-- the packages below `p` are marked
pub record MarkedBelow (t : Tables) (members : List Bool) (p : ℕ) (packages : List Bool) : Type 0 where
  pub size : length packages ≡ length t.packages
  pub each : (k : ℕ) → IsTrue (has packages k) ↔ ((k < p) × IsTrue (has_member_of t members k))

none_marked : (size n : ℕ) → IsTrue (has (replicate size false) n) → ⊥
none_marked zero n h = cc
none_marked (suc size) zero h = cc
none_marked (suc size) (suc n) h = none_marked size n h

below_or_at : (k p : ℕ) → k < p + 1 → (k < p) ⊎ (k ≡ p)
below_or_at k p h = grind arith

module _ (t : Tables) (members : List Bool) where
  pub marked_none : (count : ℕ) (packages : List Bool) → count ≡ length t.packages → packages ≡ replicate count false → MarkedBelow t members 0 packages
  marked_none count packages long empty = record {
    size = ap length empty ∙ length-replicate count false ∙ long;
    each = λ k. ((λ h. absurd (none_marked count k (subst (λ m. IsTrue (has m k)) empty h))), (λ h. let below = h.0 in absurd (omega (arith, below))));
  }

  pub marked_more : (p : ℕ) (say : Bool) (old new : List Bool) → say ≡ has_member_of t members p → IsPut say p old new → MarkedBelow t members p old → MarkedBelow t members (p + 1) new
  marked_more p say old new is put before = record {
    size = put.size ∙ before.size;
    each = λ k. (
      (λ h. ⊎_elim
          (λ o. let b = (before.each k).0 o in let below = b.0 in (omega (arith, below), b.1))
          (λ now. let same = now.0 in (omega (arith, same), subst (λ z. IsTrue (has_member_of t members z)) (sym now.0) (sym is ∙ now.1)))
          ((put.adds k).0 h)),
      (λ h. ⊎_elim
          (λ below. (put.adds k).1 (inl ((before.each k).1 (below, h.1))))
          (λ same. (put.adds k).1 (inr (same, is ∙ subst (λ z. IsTrue (has_member_of t members z)) same h.1)))
          (below_or_at k p h.0)),
    );
  }

  pub marked_all : (p : ℕ) (packages : List Bool) → p ≡ length t.packages → MarkedBelow t members p packages → AreMemberPackages t members packages
  marked_all p packages all marked = record {
    size = marked.size;
    each = λ k. (
      (λ h. let b = (marked.each k).0 h in let below = b.0 in (omega (arith, below, all), b.1)),
      (λ h. let below = h.0 in (marked.each k).1 (omega (arith, below, all), h.1)),
    );
  }
