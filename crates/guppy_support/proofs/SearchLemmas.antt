-- Each step of the search keeps its invariant, and the end decides whether there is a path.
use Rattle.std.proofs.Common.{◌≡◌, ◌⊎◌, ℕ, suc, zero, ◌+◌, ◌<◌, inl, inr, Bool, true, false, cond, List, [], ◌∷◌, ◌++◌, length, set, replicate, refl, ap, sym, ◌∙◌, subst, arith}
use Rattle.std.specs.Prelude.{Contains, count_by, not}
use Rattle.std.proofs.lemmas.Bool.{cases_eq, cases_Bool, false≢true}
use Rattle.std.proofs.lemmas.List.{get_or-set_same, get_or-set_other, length-set, length_push, set-get_or}
use Rattle.std.proofs.lemmas.List.Elements.{Contains-append_left, Contains-push, Contains-push_cases}
use Rattle.std.proofs.lemmas.List.Sums.{sum_by-set}
use Rattle.digraphs.specs.Bits.{has}
use Rattle.digraphs.proofs.SetLemmas.{has-empty}
use Rattle.guppy_support.specs.Reaches.{Along, nowhere, onward}
use Rattle.guppy_support.specs.inner.Search.{IsSearch, GoesOn, Finds}
use Rattle.guppy_support.proofs.AlongLemmas.{along_more}
use Rattle.guppy_support.proofs.LinkSteps.{has_within}

-- ---- one more member

has_new : (found : List Bool) (v : ℕ) → v < length found → has (set found v true) v ≡ true
has_new found v h = get_or-set_same found v true false h

has_kept : (found : List Bool) (v u : ℕ) → has found u ≡ true → has (set found v true) u ≡ true
has_kept found v u h = elim (cases_eq u v) [ inl e ↦ (let in' : v < length found = subst (λ x. x < length found) e (has_within found u h) in ap (has (set found v true)) e ∙ has_new found v in') | inr ne ↦ get_or-set_other found v u true false ne ∙ h ]

has_cases : (found : List Bool) (v u : ℕ) → has (set found v true) u ≡ true → (has found u ≡ true) ⊎ (u ≡ v)
has_cases found v u h = elim (cases_eq u v) [ inl e ↦ inr e | inr ne ↦ inl (sym (get_or-set_other found v u true false ne) ∙ h) ]

-- Inserting a member again changes nothing.
pub set_again : (found : List Bool) (v : ℕ) → has found v ≡ true → set found v true ≡ found
set_again found v h = sym (ap (set found v) h) ∙ set-get_or found v false

fewer : (found : List Bool) (v : ℕ) → v < length found → has found v ≡ false → count_by not (set found v true) + 1 ≡ count_by not found
fewer found v h e =
    let step : count_by not (set found v true) + cond (not (has found v)) 1 0 ≡ count_by not found + 0 = sum_by-set (λ b. cond (not b) 1 0) found v true false h in
    let old : cond {A = ℕ} (not (has found v)) 1 0 ≡ 1 = rw e refl in
    omega (arith, step, old)

-- ---- elements of a list

pub Contains-first : (x : ℕ) (xs : List ℕ) → Contains (x ∷ xs) x
Contains-first x xs = (0, omega arith, refl)

pub Contains-later : (x : ℕ) (xs : List ℕ) (v : ℕ) → Contains xs v → Contains (x ∷ xs) v
Contains-later x xs v h = (suc h.0, omega (arith, h.1), h.2)

pub Contains-cases : (x : ℕ) (xs : List ℕ) (v : ℕ) → Contains (x ∷ xs) v → (v ≡ x) ⊎ Contains xs v
Contains-cases x xs v (zero, l, e) = inl (sym e)
Contains-cases x xs v (suc i, l, e) = inr (i, omega (arith, l), e)

-- ---- one more node is found

pub finds_none : (found : List Bool) (waiting : List ℕ) → Finds (λ _. ⊥) found waiting found waiting
finds_none found waiting = record {
  size = refl;
  kept = λ v h. h;
  finds = λ v h. absurd h;
  fresh = λ v h. inl h;
  stays = λ v h. h;
  waits = λ v h. inl h;
  same = refl;
}

-- `Finds` depends only on the set of nodes that are meant.
pub finds_alike : {P Q : ℕ → Type 0} {old found : List Bool} {was waiting : List ℕ} → ((v : ℕ) → P v → Q v) → ((v : ℕ) → Q v → P v) → Finds P old was found waiting → Finds Q old was found waiting
finds_alike to back h = record {
  size = h.size;
  kept = h.kept;
  finds = λ v q. h.finds v (back v q);
  fresh = λ v t. elim (h.fresh v t) [ inl x ↦ inl x | inr x ↦ inr (to v x.0, x.1) ];
  stays = h.stays;
  waits = h.waits;
  same = h.same;
}

-- One step after another.
pub finds_both : {P Q : ℕ → Type 0} {old mid found : List Bool} {was then' waiting : List ℕ} → Finds P old was mid then' → Finds Q mid then' found waiting → Finds (λ v. P v ⊎ Q v) old was found waiting
finds_both f g = record {
  size = g.size ∙ f.size;
  kept = λ v x. g.kept v (f.kept v x);
  finds = λ v x. elim x [ inl p ↦ g.kept v (f.finds v p) | inr q ↦ g.finds v q ];
  fresh = λ v x. elim (g.fresh v x) [
    | inl y ↦ elim (f.fresh v y) [ inl z ↦ inl z | inr z ↦ inr (inl z.0, g.stays v z.1) ]
    | inr y ↦ inr (inr y.0, y.1)
  ];
  stays = λ v x. g.stays v (f.stays v x);
  waits = λ v x. elim (g.waits v x) [
    | inl y ↦ elim (f.waits v y) [ inl z ↦ inl z | inr z ↦ inr (g.kept v z) ]
    | inr y ↦ inr y
  ];
  same = g.same ∙ f.same;
}

-- The list of waiting nodes after finding `t`.
abbrev pub listed : List Bool → List ℕ → ℕ → List ℕ
listed found waiting t = cond (has found t) waiting (waiting ++ t ∷ [])

pub finds_one : (found : List Bool) (waiting : List ℕ) (t : ℕ) → t < length found → Finds (λ v. v ≡ t) found waiting (set found t true) (listed found waiting t)
finds_one found waiting t l =
    elim (cases_Bool (has found t)) [
      | inl e ↦
          let list : listed found waiting t ≡ waiting = rw e refl in
          let same : Finds (λ v. v ≡ t) found waiting found waiting = record {
            size = refl;
            kept = λ v x. x;
            finds = λ v is. ap (has found) is ∙ e;
            fresh = λ v x. inl x;
            stays = λ v x. x;
            waits = λ v x. inl x;
            same = refl;
          } in
          subst (λ f. Finds (λ v. v ≡ t) found waiting f (listed found waiting t)) (sym (set_again found t e)) (subst (Finds (λ v. v ≡ t) found waiting found) (sym list) same)
      | inr e ↦
          let list : listed found waiting t ≡ waiting ++ t ∷ [] = rw e refl in
          let one = fewer found t l e in
          let more : Finds (λ v. v ≡ t) found waiting (set found t true) (waiting ++ t ∷ []) = record {
            size = length-set found t true;
            kept = λ v x. has_kept found t v x;
            finds = λ v is. ap (has (set found t true)) is ∙ has_new found t l;
            fresh = λ v x. elim (has_cases found t v x) [ inl y ↦ inl y | inr is ↦ inr (is, subst (Contains (waiting ++ t ∷ [])) (sym is) (Contains-push waiting t)) ];
            stays = λ v x. Contains-append_left waiting (t ∷ []) v x;
            waits = λ v x. elim (Contains-push_cases waiting t v x) [ inl y ↦ inl y | inr is ↦ inr (ap (has (set found t true)) (sym is) ∙ has_new found t l) ];
            same = let long = length_push waiting t in omega (arith, one, long);
          } in
          subst (Finds (λ v. v ≡ t) found waiting (set found t true)) (sym list) more
    ]

pub found_one : (old found : List Bool) (was waiting : List ℕ) (t : ℕ) → t < length old → found ≡ set old t true → waiting ≡ listed old was t → Finds (λ v. v ≡ t) old was found waiting
found_one old found was waiting t l f w =
    subst (λ (x : List Bool). Finds (λ v. v ≡ t) old was x waiting) (sym f)
    (subst (λ (x : List ℕ). Finds (λ v. v ≡ t) old was (set old t true) x) (sym w) (finds_one old was t l))

-- ---- the search

pub search_starts : {Step : ℕ → ℕ → Type 0} (initials : ℕ → Bool) (n : ℕ) → IsSearch Step initials (replicate n false) []
search_starts initials n = record {
  reached = λ v t. absurd (false≢true (sym (has-empty n v) ∙ t));
  waits = λ v w. absurd (omega (arith, w.1));
  closed = λ u v t s. absurd (false≢true (sym (has-empty n u) ∙ t));
}

-- Finding an initial node keeps the invariant.
pub search_adds : {Step : ℕ → ℕ → Type 0} (initials : ℕ → Bool) (t : ℕ) (old found : List Bool) (was waiting : List ℕ) → initials t ≡ true → IsSearch Step initials old was → Finds (λ v. v ≡ t) old was found waiting → IsSearch Step initials found waiting
search_adds {Step} initials t old found was waiting is s f =
    record {
      reached = λ v h. elim (f.fresh v h) [ inl x ↦ s.reached v x | inr x ↦ (t, is, subst (Along Step t) (sym x.0) nowhere) ];
      waits = λ v w. elim (f.waits v w) [ inl x ↦ f.kept v (s.waits v x) | inr x ↦ x ];
      closed = λ u v h e. elim (f.fresh u h) [
        | inl x ↦ elim (s.closed u v x e) [ inl y ↦ inl (f.kept v y) | inr y ↦ inr (f.stays u y) ]
        | inr x ↦ inr x.1
      ];
    }

-- Following the last node of the list keeps the invariant.
pub search_goes : {Step : ℕ → ℕ → Type 0} (initials : ℕ → Bool) (node : ℕ) (old found : List Bool) (rest waiting : List ℕ) → IsSearch Step initials old (rest ++ node ∷ []) → Finds (Step node) old rest found waiting → IsSearch Step initials found waiting
search_goes {Step} initials node old found rest waiting s f =
    let known : has old node ≡ true = s.waits node (Contains-push rest node) in
    let here = s.reached node known in
    record {
      reached = λ v t. elim (f.fresh v t) [ inl x ↦ s.reached v x | inr x ↦ (here.0, here.1, along_more here.2 x.0) ];
      waits = λ v w. elim (f.waits v w) [ inl x ↦ f.kept v (s.waits v (Contains-append_left rest (node ∷ []) v x)) | inr x ↦ x ];
      closed = λ u v t e. elim (f.fresh u t) [
        | inl x ↦ elim (s.closed u v x e) [
          | inl y ↦ inl (f.kept v y)
          | inr y ↦ elim (Contains-push_cases rest node u y) [
            | inl z ↦ inr (f.stays u z)
            | inr is ↦ inl (f.finds v (subst (λ w. Step w v) (sym is) e))
          ]
        ]
        | inr x ↦ inr x.1
      ];
    }

pub goes_none : {Step : ℕ → ℕ → Type 0} (found : List Bool) (waiting : List ℕ) → GoesOn Step found waiting found waiting
goes_none found waiting = record { size = refl; kept = λ v h. h; keeps = λ initials s. s }

pub goes_more : {Step : ℕ → ℕ → Type 0} (old mid found : List Bool) (was rest waiting : List ℕ) (node : ℕ) → GoesOn Step old was mid (rest ++ node ∷ []) → Finds (Step node) mid rest found waiting → GoesOn Step old was found waiting
goes_more old mid found was rest waiting node g f = record {
  size = f.size ∙ g.size;
  kept = λ v h. f.kept v (g.kept v h);
  keeps = λ initials s. search_goes initials node mid found rest waiting (g.keeps initials s) f;
}

-- If no node waits, what a found node reaches is found.
pub path_found : {Step : ℕ → ℕ → Type 0} (initials : ℕ → Bool) (found : List Bool) → IsSearch Step initials found [] → {a b : ℕ} → Along Step a b → has found a ≡ true → has found b ≡ true
path_found initials found s nowhere h = h
path_found initials found s (onward {u = a} {v = b} e p) h = path_found initials found s p (elim (s.closed a b h e) [ inl x ↦ x | inr x ↦ absurd (omega (arith, x.1)) ])

-- A waiting node is below the number of nodes.
pub waiting_within : {Step : ℕ → ℕ → Type 0} (initials : ℕ → Bool) (node : ℕ) (found : List Bool) (rest : List ℕ) → IsSearch Step initials found (rest ++ node ∷ []) → node < length found
waiting_within initials node found rest s = has_within found node (s.waits node (Contains-push rest node))
