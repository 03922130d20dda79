-- Sorted keys, split at a node.
use Rattle.std.proofs.Common.{◌≡◌, ℕ, ◌+◌, ◌<◌, ◌≤◌, ◌⊎◌, inl, inr, ⊎_elim, List, true, false, length, take, drop, get_or, arith, sym, subst, ◌∙◌}
use Rattle.std.specs.Prelude.{Contains, AllPairs, nat_lt}
use Rattle.std.specs.List.Sorted.{IsPartitionedBy, IsPartitionPoint}
use Rattle.std.proofs.lemmas.Bool.Decides.{nat_tests}
use Rattle.std.proofs.lemmas.List.{get_or-take, get_or-drop, length-take-le, length-drop}
use Rattle.feature_edges.specs.declared.candidate.Key.{Key}
use Rattle.feature_edges.specs.inner.Keys.{IsBefore, IsNoLater}

before_from : (a b : Key) → IsBefore a b → a.from ≤ b.from
before_from a b (inl h) = omega (arith, h)
before_from a b (inr h) = omega (arith, h.0)

-- sorted keys ascend by the node that they start at
no_later_from : (a b : Key) → IsNoLater a b → a.from ≤ b.from
no_later_from a b (inl h) = before_from a b h
no_later_from a b (inr h) = omega (arith, h.0.0)

less : (m n : ℕ) → nat_lt m n ≡ true → m < n
less m n h = grind (arith, nat_tests)

is_less : (m n : ℕ) → m < n → nat_lt m n ≡ true
is_less m n h = grind (arith, nat_tests)

not_less : (m n : ℕ) → nat_lt m n ≡ false → n ≤ m
not_less m n h = grind (arith, nat_tests)

near_or_far : (i j : ℕ) → i ≤ j → (i ≡ j) ⊎ (i < j)
near_or_far i j l = grind arith

module _ (keys : List Key) (end : ℕ) (ordered : AllPairs IsNoLater keys) where
  pub parted : IsPartitionedBy (λ y. nat_lt y.from end) keys
  parted i j d l m h = ⊎_elim
      (λ e. subst (λ z. nat_lt (get_or keys z d).from end ≡ true) (sym e) h)
      (λ n. is_less (get_or keys i d).from end (omega (arith, no_later_from (get_or keys i d) (get_or keys j d) (ordered i j d n m), less (get_or keys j d).from end h)))
      (near_or_far i j l)

  pub front_below : (n : ℕ) → n ≤ length keys → IsPartitionPoint (λ y. nat_lt y.from end ≡ true) (λ y. nat_lt y.from end ≡ false) keys n → (x : Key) → Contains (take n keys) x → x.from < end
  front_below n within point x h =
      let k : h.0 < n = omega (arith, h.1, length-take-le n keys within) in
      let same : get_or keys h.0 x ≡ x = sym (get_or-take n keys h.0 x k) ∙ h.2 in
      less x.from end (subst (λ z. nat_lt z.from end ≡ true) same (point.0 h.0 x (omega arith) k))

  pub back_above : (n : ℕ) → IsPartitionPoint (λ y. nat_lt y.from end ≡ true) (λ y. nat_lt y.from end ≡ false) keys n → (x : Key) → Contains (drop n keys) x → end ≤ x.from
  back_above n point x h =
      let within : n + h.0 < length keys = omega (arith, h.1, length-drop n keys) in
      let same : get_or keys (n + h.0) x ≡ x = sym (get_or-drop n keys h.0 x) ∙ h.2 in
      not_less x.from end (subst (λ z. nat_lt z.from end ≡ false) same (point.1 (n + h.0) x (omega arith) within))
