-- What a search keeps true.
use Rattle.std.proofs.Common.{◌≡◌, ◌∙◌, ◌⊎◌, ◌<◌, ◌≤◌, ◌+◌, ℕ, zero, suc, inl, inr, ⊎_elim, refl, ap, sym, subst, List, [], ◌∷◌, ◌++◌, length, set, Bool, false, eqb, Option, Some, None, Contains, arith, get_or-set_same, get_or-set_other, length-set, le_of_suc-le-suc, not-suc-le-zero}
use Rattle.std.specs.Global.{Vec}
use Rattle.std.proofs.lemmas.Bool.{cases_eq, cases_lt}
use Rattle.std.proofs.lemmas.List.{length_push}
use Rattle.std.proofs.lemmas.List.Elements.{Contains-append_left, Contains-push, Contains-push_cases}
use Rattle.shortest_routes.specs.inner.Links.{AreBefore, nodes_before}
use Rattle.shortest_routes.specs.inner.Searches.{Grows, HasStep, IsFrom, IsReached, blanks}
use Rattle.shortest_routes.specs.inner.Steps.{AreSteps, IsNear, IsSearched, LeadsBy, step_at}
use Rattle.shortest_routes.specs.declared.step.Step.{Step}
use Rattle.shortest_routes.proofs.ListLemmas.{by_option, none_in, not_both, positive, same_one}

pub grows_none : (May : ℕ → Step → Type 0) (steps : List (Option Step)) (found : List ℕ) → Grows May steps steps found found
grows_none May steps found = record {
  size = refl;
  kept = λ n s h. h;
  may = λ n s none some. not_both (step_at steps n) s none some;
  appended = λ n h. inl h;
  stays = λ n h. h;
  has_new = λ n none some. not_both (step_at steps n) some.0 none some.1;
  fewer = refl;
}

pub grows_by : (May Any : ℕ → Step → Type 0) (a b : List (Option Step)) (x y : List ℕ) → ((n : ℕ) (s : Step) → May n s → Any n s) → Grows May a b x y → Grows Any a b x y
grows_by May Any a b x y wider g = record {
  size = g.size;
  kept = g.kept;
  may = λ n s none some. wider n s (g.may n s none some);
  appended = g.appended;
  stays = g.stays;
  has_new = g.has_new;
  fewer = g.fewer;
}

pub grows_on : (May : ℕ → Step → Type 0) (a b c : List (Option Step)) (x y z : List ℕ) → Grows May a b x y → Grows May b c y z → Grows May a c x z
grows_on May a b c x y z g h = record {
  size = h.size ∙ g.size;
  kept = λ n s e. h.kept n s (g.kept n s e);
  may = λ n s none some. by_option (step_at b n)
      (λ still. h.may n s still some)
      (λ t e. subst (May n) (same_one (step_at c n) t s (h.kept n t e) some) (g.may n t none e));
  appended = λ n q. ⊎_elim
      (λ p. ⊎_elim (λ r. inl r) (λ r. inr (r.0, (r.1.0, h.kept n r.1.0 r.1.1))) (g.appended n p))
      (λ p. inr (was_none n p.0, p.1))
      (h.appended n q);
  stays = λ n p. h.stays n (g.stays n p);
  has_new = λ n none some. by_option (step_at b n) (λ still. h.has_new n still some) (λ t e. h.stays n (g.has_new n none (t, e)));
  fewer = h.fewer ∙ g.fewer;
}
  where
    was_none : (n : ℕ) → step_at b n ≡ None → step_at a n ≡ None
    was_none n none = by_option (step_at a n) (λ e. e) (λ t e. not_both (step_at b n) t none (g.kept n t e))

blanks_set : (steps : List (Option Step)) (n : ℕ) (step : Step) → step_at steps n ≡ None → n < length steps → suc (blanks (set steps n (Some step))) ≡ blanks steps
blanks_set [] n step none within = absurd (not-suc-le-zero within)
blanks_set (None ∷ ss) zero step none within = refl
blanks_set (Some t ∷ ss) zero step none within = cc
blanks_set (None ∷ ss) (suc n) step none within = ap suc (blanks_set ss n step none (le_of_suc-le-suc within))
blanks_set (Some t ∷ ss) (suc n) step none within = blanks_set ss n step none (le_of_suc-le-suc within)

-- a node without a step got one
pub grows_one : (steps : List (Option Step)) (found : List ℕ) (node : ℕ) (step : Step) → node < length steps → step_at steps node ≡ None
    → Grows (λ n s. (n ≡ node) × (s ≡ step)) steps (set steps node (Some step)) found (found ++ node ∷ [])
grows_one steps found node step within none = record {
  size = length-set steps node (Some step);
  kept = λ n s h. ⊎_elim (λ e. not_both (step_at steps n) s (subst (λ z. step_at steps z ≡ None) (sym e) none) h) (λ ne. other n ne ∙ h) (cases_eq n node);
  may = λ n s gone some. ⊎_elim
      (λ e. (e, same_one (step_at new n) s step some (subst (λ z. step_at new z ≡ Some step) (sym e) here)))
      (λ ne. not_both (step_at steps n) s gone (sym (other n ne) ∙ some))
      (cases_eq n node);
  appended = λ n c. ⊎_elim (λ h. inl h) (λ e. inr (subst (λ z. (step_at steps z ≡ None) × HasStep new z) e (none, (step, here)))) (Contains-push_cases found node n c);
  stays = λ n c. Contains-append_left found (node ∷ []) n c;
  has_new = λ n gone some. ⊎_elim
      (λ e. subst (λ z. Contains (found ++ node ∷ []) z) (sym e) (Contains-push found node))
      (λ ne. not_both (step_at steps n) some.0 gone (sym (other n ne) ∙ some.1))
      (cases_eq n node);
  fewer = let less : suc (blanks new) ≡ blanks steps = blanks_set steps node step none within in let longer : length (found ++ node ∷ []) ≡ length found + 1 = length_push found node in omega arith;
}
  where
    new : List (Option Step)
    new = set steps node (Some step)

    here : step_at new node ≡ Some step
    here = get_or-set_same steps node (Some step) None within

    other : (n : ℕ) → (n ≡ node → ⊥) → step_at new n ≡ step_at steps n
    other n ne = get_or-set_other steps node n (Some step) None ne

-- the steps of the targets alone
pub begun : (links : List (ℕ × ℕ)) (targets : List ℕ) (blank steps : List (Option Step)) (step : Step) (level : List ℕ) → step.distance ≡ 0 → step.next ≡ None → ((n : ℕ) → step_at blank n ≡ None)
    → Grows (IsReached targets step) blank steps [] level → ((n : ℕ) → Contains targets n → HasStep steps n) → IsSearched links targets 0 level steps
begun links targets blank steps step level at_zero at_end none g all = record {
  lead = λ n s e. let m = g.may n s (none n) e in subst (λ z. LeadsBy links targets steps n z.distance z.next) (sym m.1) (ends n m.0);
  ends = λ n c. let h = all n c in (h.0, h.1, zero_of n h.0 h.1);
  near = λ from to s c e low. absurd (not-suc-le-zero low);
  within = λ n s e. zero_of n s e;
  in_level = λ n s e d. g.has_new n (none n) (s, e);
  of_level = λ n c. ⊎_elim (λ h. absurd (none_in n h)) (λ q. (q.1.0, q.1.1, is_zero n q.1.0 q.1.1)) (g.appended n c);
}
  where
    is_zero : (n : ℕ) (s : Step) → step_at steps n ≡ Some s → s.distance ≡ 0
    is_zero n s e = ap (λ (z : Step). z.distance) (g.may n s (none n) e).1 ∙ at_zero

    zero_of : (n : ℕ) (s : Step) → step_at steps n ≡ Some s → s.distance ≤ 0
    zero_of n s e = let z : s.distance ≡ 0 = is_zero n s e in omega arith

    ends : (n : ℕ) → Contains targets n → LeadsBy links targets steps n step.distance step.next
    ends n c = subst (λ z. LeadsBy links targets steps n step.distance z) (sym at_end) (c, at_zero)

module _ (links : List (ℕ × ℕ)) (targets : List ℕ) (lists : List (Vec ℕ)) (distance : ℕ) (level next : List ℕ) (steps new : List (Option Step))
    (before : AreBefore links lists) (w : IsSearched links targets distance level steps) (g : Grows (IsFrom (nodes_before lists) level (distance + 1)) steps new [] next)
    (all : (n node : ℕ) → Contains level node → Contains (nodes_before lists node) n → HasStep new n) where
  kept_leads : (n d : ℕ) (after : Option ℕ) → LeadsBy links targets steps n d after → LeadsBy links targets new n d after
  kept_leads n d None h = h
  kept_leads n d (Some m) h = (h.0, (h.1.0, g.kept m h.1.0 h.1.1, h.1.2))

  kept_near : (n d : ℕ) → IsNear steps n d → IsNear new n d
  kept_near n d h = (h.0, g.kept n h.0 h.1, h.2)

  new_distance : (n : ℕ) (s : Step) → step_at steps n ≡ None → step_at new n ≡ Some s → s.distance ≡ distance + 1
  new_distance n s none e = ap (λ (z : Step). z.distance) (g.may n s none e).3

  -- the step of a node that had one
  is_old : (n : ℕ) (s t : Step) → step_at new n ≡ Some s → step_at steps n ≡ Some t → t ≡ s
  is_old n s t e old = same_one (step_at new n) t s (g.kept n t old) e

  new_leads : (n : ℕ) (s : Step) → step_at steps n ≡ None → step_at new n ≡ Some s → LeadsBy links targets new n s.distance s.next
  new_leads n s none e =
      let m = g.may n s none e in
      let in_level = w.of_level m.0 m.1 in
      subst (λ z. LeadsBy links targets new n z.distance z.next) (sym m.3)
      ((before n m.0).0 m.2, (in_level.0, g.kept m.0 in_level.0 in_level.1, ap (λ z. z + 1) (sym in_level.2)))

  most : (n : ℕ) (s : Step) → step_at new n ≡ Some s → s.distance ≤ distance + 1
  most n s e = by_option (step_at steps n)
      (λ none. let d : s.distance ≡ distance + 1 = new_distance n s none e in omega arith)
      (λ t old. let d : t.distance ≤ distance = w.within n t old in let same : t.distance ≡ s.distance = ap (λ (z : Step). z.distance) (is_old n s t e old) in omega arith)

  near_old : (from to : ℕ) (t : Step) → Contains links (from, to) → step_at steps to ≡ Some t → (t.distance < distance) ⊎ (distance ≤ t.distance) → IsNear new from (t.distance + 1)
  near_old from to t c old (inl low) = kept_near from (t.distance + 1) (w.near from to t c old low)
  near_old from to t c old (inr high) =
      let few : t.distance ≤ distance = w.within to t old in
      let same : t.distance ≡ distance = omega arith in
      let has = all from to (w.in_level to t old same) ((before from to).1 c) in
      let d : has.0.distance ≤ distance + 1 = most from has.0 has.1 in
      let e : has.0.distance ≤ t.distance + 1 = omega arith in
      (has.0, has.1, e)

  -- one more level
  pub searched_on : IsSearched links targets (distance + 1) next new
  searched_on = record {
    lead = λ n s e. by_option (step_at steps n)
        (λ none. new_leads n s none e)
        (λ t old. subst (λ z. LeadsBy links targets new n z.distance z.next) (is_old n s t e old) (kept_leads n t.distance t.next (w.lead n t old)));
    ends = λ n c. kept_near n 0 (w.ends n c);
    near = λ from to s c e low. by_option (step_at steps to)
        (λ none. absurd (let d : s.distance ≡ distance + 1 = new_distance to s none e in omega arith))
        (λ t old. subst (λ z. IsNear new from (z.distance + 1)) (is_old to s t e old) (near_old from to t c old (cases_lt t.distance distance)));
    within = most;
    in_level = λ n s e d. by_option (step_at steps n)
        (λ none. g.has_new n none (s, e))
        (λ t old. absurd (let few : t.distance ≤ distance = w.within n t old in let same : t.distance ≡ s.distance = ap (λ (z : Step). z.distance) (is_old n s t e old) in omega arith));
    of_level = λ n c. ⊎_elim (λ h. absurd (none_in n h)) (λ q. (q.1.0, q.1.1, new_distance n q.1.0 q.0 q.1.1)) (g.appended n c);
  }

-- the same, where what was taken and its distance are known by equations
pub searched_next : (links : List (ℕ × ℕ)) (targets : List ℕ) (lists : List (Vec ℕ)) (distance far : ℕ) (level taken next : List ℕ) (steps new : List (Option Step)) → far ≡ distance + 1 → taken ≡ level
    → AreBefore links lists → IsSearched links targets distance level steps → Grows (IsFrom (nodes_before lists) taken far) steps new [] next
    → ((n node : ℕ) → Contains taken node → Contains (nodes_before lists node) n → HasStep new n) → IsSearched links targets far next new
searched_next links targets lists distance far level taken next steps new more same before w g all =
    subst (λ d. IsSearched links targets d next new) (sym more)
    (searched_on links targets lists distance level next steps new before w
    (subst (λ l. Grows (IsFrom (nodes_before lists) l (distance + 1)) steps new [] next) same (subst (λ d. Grows (IsFrom (nodes_before lists) taken d) steps new [] next) more g))
    (subst (λ l. (n node : ℕ) → Contains l node → Contains (nodes_before lists node) n → HasStep new n) same all))

-- fewer nodes are without a step, or at the next level
pub fewer_left : (steps new : List (Option Step)) (level next : List ℕ) (n : ℕ) (b : Bool) → n ≡ length level → b ≡ eqb n 0 → b ≡ false → blanks new + length next ≡ blanks steps + 0
    → blanks new + length next < blanks steps + length level
fewer_left steps new level next n b long empty isnt fewer = let some : 0 < n = positive n (sym empty ∙ isnt) in omega arith

-- no node is at the next level
pub searched_all : (links : List (ℕ × ℕ)) (targets : List ℕ) (distance : ℕ) (level : List ℕ) (steps : List (Option Step)) → IsSearched links targets distance level steps → level ≡ [] → AreSteps links targets steps
searched_all links targets distance level steps w none = record {
  lead = w.lead;
  ends = w.ends;
  near = λ from to s c e. ⊎_elim
      (λ low. w.near from to s c e low)
      (λ high. absurd (none_in to (subst (λ z. Contains z to) none (w.in_level to s e (let few : s.distance ≤ distance = w.within to s e in omega arith)))))
      (cases_lt s.distance distance);
}
