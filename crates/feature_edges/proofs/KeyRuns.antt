-- The keys of one pair are adjacent among sorted keys.
use Rattle.std.proofs.Common.{◌≡◌, ℕ, ◌+◌, zero, suc, ◌<◌, ◌≤◌, inl, inr, ⊎_elim, List, [], ◌∷◌, ◌++◌, length, get_or, Some, refl, ap, sym, ◌∙◌, subst, arith, take, drop}
use Rattle.std.specs.Prelude.{Contains, All, AllPairs, slice_get}
use Rattle.std.proofs.lemmas.List.{append_assoc, append-nil, get_or-take, get_or-drop, length-take-le, length-drop}
use Rattle.std.proofs.lemmas.List.Elements.{All-contains, Contains-append_left, Contains-append_right, Contains-append_cases}
use Rattle.std.proofs.lemmas.Option.{slice_get-get_or, get_or_from_slice_get}
use Rattle.guppy_packages.specs.Tables.{Tables}
use Rattle.feature_edges.specs.declared.table.MadeEdges.{MadeEdges}
use Rattle.feature_edges.specs.declared.candidate.Key.{Key}
use Rattle.feature_edges.specs.inner.Keys.{rank, AreLeast, IsBefore, IsNoLater, IsPair, IsSplitRun}
use Rattle.feature_edges.specs.inner.Made.{AreMade, AreWalked, AreWholeKeys, IsRun}
use Rattle.feature_edges.specs.inner.Parts.{IsOfTables}
use Rattle.feature_edges.proofs.AddsLemmas.{Contains-cases, Contains-first, Contains-none, element_at_place}
use Rattle.feature_edges.proofs.EdgeLemmas.{not_before}
use Rattle.feature_edges.proofs.LeastKeys.{before_up, no_later_up}
use Rattle.feature_edges.proofs.SourceLemmas.{least_joined}

pub pairs_take : {X : Type 0} (R : X → X → Type 0) (i : ℕ) (xs : List X) → i ≤ length xs → AllPairs R xs → AllPairs R (take i xs)
pairs_take R i xs within h j k d l m =
    let n : k < i = omega (arith, m, length-take-le i xs within) in
    let r = h j k d l (omega (arith, n, within)) in
    subst (λ z. R z (get_or (take i xs) k d)) (sym (get_or-take i xs j d (omega (arith, l, n)))) (subst (λ z. R (get_or xs j d) z) (sym (get_or-take i xs k d n)) r)

pub pairs_drop : {X : Type 0} (R : X → X → Type 0) (i : ℕ) (xs : List X) → AllPairs R xs → AllPairs R (drop i xs)
pairs_drop R i xs h j k d l m =
    let r = h (i + j) (i + k) d (omega (arith, l)) (omega (arith, m, length-drop i xs)) in
    subst (λ z. R z (get_or (drop i xs) k d)) (sym (get_or-drop i xs j d)) (subst (λ z. R (get_or xs (i + j) d) z) (sym (get_or-drop i xs k d)) r)

get_taken : {X : Type 0} (i k : ℕ) (xs : List X) (x : X) → k < i → slice_get xs k ≡ Some x → slice_get (take i xs) k ≡ Some x
get_taken zero k xs x l h = absurd (omega (arith, l))
get_taken (suc i) k [] x l h = cc
get_taken (suc i) zero (y ∷ xs) x l h = h
get_taken (suc i) (suc k) (y ∷ xs) x l h = get_taken i k xs x (omega (arith, l)) h

two_parts : {X : Type 0} (n : ℕ) (xs : List X) → xs ≡ take n xs ++ drop n xs
two_parts zero xs = refl
two_parts (suc n) [] = refl
two_parts (suc n) (x ∷ xs) = ap (λ z. x ∷ z) (two_parts n xs)

module _ (keys : List Key) (key : Key) (n : ℕ) (ordered : AllPairs IsNoLater keys) (first : slice_get keys 0 ≡ Some key) (end : (y : Key) → slice_get keys n ≡ Some y → IsPair key y → ⊥) where
  some : 0 < n
  some = go n refl
    where
      go : (m : ℕ) → n ≡ m → 0 < n
      go zero e = absurd (end key (subst (λ z. slice_get keys z ≡ Some key) (sym e) first) (refl, refl))
      go (suc m) e = omega (arith, e)

  later_apart : All (IsBefore key) (drop n keys)
  later_apart k d l = subst (IsBefore key) (sym (get_or-drop n keys k d)) (far k l)
    where
      within : (j : ℕ) → j < length (drop n keys) → n + j < length keys
      within j m = omega (arith, m, length-drop n keys)

      at_end : (j : ℕ) → j < length (drop n keys) → n < length keys
      at_end j m = omega (arith, within j m)

      next : (j : ℕ) → j < length (drop n keys) → IsBefore key (get_or keys n d)
      next j m =
          let up : IsNoLater key (get_or keys n d) = subst (λ z. IsNoLater z (get_or keys n d)) (get_or_from_slice_get keys 0 key d first) (ordered 0 n d some (at_end j m)) in
          ⊎_elim (λ b. b) (λ p. absurd (end (get_or keys n d) (slice_get-get_or keys n d (at_end j m)) p.0)) up

      far : (j : ℕ) → j < length (drop n keys) → IsBefore key (get_or keys (n + j) d)
      far zero m = let e : n ≡ n + 0 = omega arith in subst (λ z. IsBefore key (get_or keys z d)) e (next 0 m)
      far (suc j) m = before_up key (get_or keys n d) (get_or keys (n + suc j) d) (next (suc j) m) (no_later_up (get_or keys n d) (get_or keys (n + suc j) d) (ordered n (n + suc j) d (omega arith) (within (suc j) m)))

  -- the first `n` keys are the run of the first one
  pub run_split : n ≤ length keys → All (IsPair key) (take n keys) → IsSplitRun keys key (take n keys) (drop n keys)
  run_split bound same = record {
    whole = two_parts n keys;
    first = get_taken n 0 keys key some first;
    ordered = pairs_take IsNoLater n keys bound ordered;
    same = same;
    rest_ordered = pairs_drop IsNoLater n keys ordered;
    apart = later_apart;
  }

rank_up : (a b : Key) → IsPair a b → IsNoLater a b → rank a.kind ≤ rank b.kind
rank_up a b pair (inl before) = absurd (not_before a b pair.0 pair.1 before)
rank_up a b pair (inr (p, inl l)) = omega (arith, l)
rank_up a b pair (inr (p, inr s)) = omega (arith, ap rank s.0)

-- the first key of a run has the least rank
pub run_least : (run : List Key) (key y : Key) → slice_get run 0 ≡ Some key → AllPairs IsNoLater run → Contains run y → IsPair key y → rank key.kind ≤ rank y.kind
run_least run key y first ordered c pair = go c.0 c.1 c.2
  where
    head : get_or run 0 y ≡ key
    head = get_or_from_slice_get run 0 key y first

    go : (j : ℕ) → j < length run → get_or run j y ≡ y → rank key.kind ≤ rank y.kind
    go zero l e = omega (arith, ap (λ z. rank z.kind) (sym head ∙ e))
    go (suc j) l e = rank_up key y pair (subst (λ z. IsNoLater z y) head (subst (λ z. IsNoLater (get_or run 0 y) z) e (ordered 0 (suc j) y (omega arith) l)))

one_least : (rest run later : List Key) (key : Key) → IsSplitRun rest key run later → AreLeast run (key ∷ [])
one_least rest run later key s = record {
  ascends = λ i j d l m. absurd (omega (arith, l, m));
  from_keys = λ a h. ⊎_elim (λ e. subst (Contains run) e (element_at_place run 0 key s.first)) (λ n. absurd (Contains-none a n)) (Contains-cases key [] a h);
  each = λ b h. let pair = All-contains (IsPair key) run b s.same h in record { by = key; kept_one = Contains-first key []; pair = pair; least = run_least run key b s.first s.ordered h pair };
}

pair_before : (k a b : Key) → IsPair k a → IsBefore k b → IsBefore a b
pair_before k a b p (inl l) = inl (omega (arith, p.0, l))
pair_before k a b p (inr l) = inr (omega (arith, p.0, l.0), omega (arith, p.1, l.1))

module _ (t : Tables) (keys rest : List Key) (old mid : MadeEdges) (w : AreWalked t keys rest old mid) where
  in_keys : (y : Key) → Contains rest y → Contains keys y
  in_keys y h = subst (λ z. Contains z y) (sym w.whole) (Contains-append_right w.front rest y h)

  module _ (run later : List Key) (key : Key) (s : IsSplitRun rest key run later) where
    in_run : (y : Key) → Contains run y → Contains rest y
    in_run y h = subst (λ z. Contains z y) (sym s.whole) (Contains-append_left run later y h)

    key_there : Contains rest key
    key_there = in_run key (element_at_place run 0 key s.first)

    pub key_of_tables : AreWholeKeys t keys → IsOfTables t key
    key_of_tables all = all.of_tables key (in_keys key key_there)

    -- the run has exactly the keys of the tables for its pair
    pub run_whole : AreWholeKeys t keys → IsRun t key run
    run_whole all = record {
      first = s.first;
      ordered = s.ordered;
      exact = λ y. (
        (λ h. (all.of_tables y (in_keys y (in_run y h)), All-contains (IsPair key) run y s.same h)),
        (λ h. ⊎_elim
            (λ f. absurd (not_before y key (sym h.1.0) (sym h.1.1) (w.apart y key f key_there)))
            (λ r. ⊎_elim
            (λ u. u)
            (λ v. absurd (not_before key y h.1.0 h.1.1 (All-contains (IsBefore key) later y s.apart v)))
            (Contains-append_cases run later y (subst (λ z. Contains z y) s.whole r)))
            (Contains-append_cases w.front rest y (subst (λ z. Contains z y) w.whole (all.whole key y (in_keys key key_there) h.0 (sym h.1.0))))),
      );
    }

    -- one run more
    pub walk_next : (new : MadeEdges) → ((done : List Key) → AreMade t done mid → AreMade t (done ++ key ∷ []) new) → AreWalked t keys later old new
    walk_next new step = record {
      front = w.front ++ run;
      kept = w.kept ++ key ∷ [];
      whole = w.whole ∙ ap (λ z. w.front ++ z) s.whole ∙ sym (append_assoc w.front run later);
      ordered = s.rest_ordered;
      least = least_joined w.front run w.kept (key ∷ []) w.least (one_least rest run later key s) (λ x y u v. w.apart x y u (in_run y v));
      apart = λ a b u v. ⊎_elim
          (λ f. w.apart a b f (subst (λ z. Contains z b) (sym s.whole) (Contains-append_right run later b v)))
          (λ r. pair_before key a b (All-contains (IsPair key) run a s.same r) (All-contains (IsBefore key) later b s.apart v))
          (Contains-append_cases w.front run a u);
      made = λ done h. subst (λ z. AreMade t z new) (append_assoc done w.kept (key ∷ [])) (step (done ++ w.kept) (w.made done h));
    }

  -- no key is left
  pub walk_end : rest ≡ [] → (kept : List Key) × AreLeast keys kept × ((done : List Key) → AreMade t done old → AreMade t (done ++ kept) mid)
  walk_end nil = (w.kept, subst (λ z. AreLeast z w.kept) (sym (w.whole ∙ ap (λ z. w.front ++ z) nil ∙ append-nil w.front)) w.least, w.made)

pub walk_none : (t : Tables) (keys : List Key) (m : MadeEdges) → AllPairs IsNoLater keys → AreWalked t keys keys m m
walk_none t keys m ordered = record {
  front = [];
  kept = [];
  whole = refl;
  ordered = ordered;
  least = record { ascends = λ i j d l n. absurd (omega (arith, n)); from_keys = λ x c. c; each = λ x c. absurd (Contains-none x c) };
  apart = λ a b u v. absurd (Contains-none a u);
  made = λ done h. subst (λ z. AreMade t z m) (sym (append-nil done)) h;
}
