-- Lists of the nodes before each node.
use Rattle.std.proofs.Common.{◌≡◌, ◌∙◌, ◌⊎◌, ◌<◌, ◌+◌, ℕ, zero, suc, inl, inr, ⊎_elim, refl, ap, ap₂, sym, subst, List, [], ◌∷◌, ◌++◌, length, take, set, get_or, Bool, true, false, cond, nat_eq, Contains, le_of_suc-le-suc, not-suc-le-zero}
use Rattle.std.specs.Global.{Vec}
use Rattle.std.proofs.lemmas.Bool.{cases_eq, eq-eqb, eqb-true, ne_eqb}
use Rattle.std.proofs.lemmas.List.Elements.{Contains-append_cases, Contains-append_left, Contains-append_right, Contains-push_cases}
use Rattle.shortest_routes.specs.inner.Links.{AreBefore, nodes_before}
use Rattle.shortest_routes.proofs.ListLemmas.{first_in, none_in, taken_before, taken_cases, taken_next}

-- an empty list was appended
pub before_push : (lists : List (Vec ℕ)) (v : Vec ℕ) (n : ℕ) → v.items ≡ [] → nodes_before (lists ++ v ∷ []) n ≡ nodes_before lists n
before_push [] v zero h = h
before_push [] v (suc n) h = refl
before_push (l ∷ ls) v zero h = refl
before_push (l ∷ ls) v (suc n) h = before_push ls v n h

before_same : (lists : List (Vec ℕ)) (i : ℕ) (v : Vec ℕ) → i < length lists → nodes_before (set lists i v) i ≡ v.items
before_same [] i v h = absurd (not-suc-le-zero h)
before_same (l ∷ ls) zero v h = refl
before_same (l ∷ ls) (suc i) v h = before_same ls i v (le_of_suc-le-suc h)

before_other : (lists : List (Vec ℕ)) (i k : ℕ) (v : Vec ℕ) → (i ≡ k → ⊥) → nodes_before (set lists i v) k ≡ nodes_before lists k
before_other [] i k v h = refl
before_other (l ∷ ls) zero zero v h = absurd (h refl)
before_other (l ∷ ls) zero (suc k) v h = refl
before_other (l ∷ ls) (suc i) zero v h = refl
before_other (l ∷ ls) (suc i) (suc k) v h = before_other ls i k v (λ e. h (ap suc e))

before_there : (lists : List (Vec ℕ)) (i : ℕ) (d : Vec ℕ) → i < length lists → nodes_before lists i ≡ (get_or lists i d).items
before_there [] i d h = absurd (not-suc-le-zero h)
before_there (l ∷ ls) zero d h = refl
before_there (l ∷ ls) (suc i) d h = before_there ls i d (le_of_suc-le-suc h)

same_end : (n : List ℕ) → n ≡ n ++ []
same_end [] = refl
same_end (x ∷ xs) = ap (λ z. x ∷ z) (same_end xs)

-- a node was appended to one of the lists
pub link_added : (lists new : List (Vec ℕ)) (to from : ℕ) (v d : Vec ℕ) → to < length lists → new ≡ set lists to v → v.items ≡ (get_or lists to d).items ++ from ∷ []
    → (n : ℕ) → nodes_before new n ≡ nodes_before lists n ++ cond (nat_eq to n) (from ∷ []) []
link_added lists new to from v d within is items n = ap (λ z. nodes_before z n) is ∙ at (cases_eq to n)
  where
    at : (to ≡ n) ⊎ (to ≡ n → ⊥) → nodes_before (set lists to v) n ≡ nodes_before lists n ++ cond (nat_eq to n) (from ∷ []) []
    at (inl e) = subst (λ z. nodes_before (set lists to v) z ≡ nodes_before lists z ++ cond (nat_eq to z) (from ∷ []) []) e
        (before_same lists to v within ∙ items ∙ ap (λ z. z ++ from ∷ []) (sym (before_there lists to d within))
        ∙ ap (λ b. nodes_before lists to ++ cond b (from ∷ []) []) (sym (eq-eqb to to refl)))
    at (inr e) = before_other lists to n v e ∙ same_end (nodes_before lists n) ∙ ap (λ b. nodes_before lists n ++ cond b (from ∷ []) []) (sym (ne_eqb to n e))

-- one more link was added
pub before_more : (links : List (ℕ × ℕ)) (i : ℕ) (old new : List (Vec ℕ)) → i < length links → AreBefore (take i links) old
    → ((n : ℕ) → nodes_before new n ≡ nodes_before old n ++ cond (nat_eq (get_or links i (0, 0)).1 n) ((get_or links i (0, 0)).0 ∷ []) []) → AreBefore (take (i + 1) links) new
before_more links i old new within was added from to = (forth, back)
  where
    here : (b : Bool) → nat_eq (get_or links i (0, 0)).1 to ≡ b → Contains (cond b ((get_or links i (0, 0)).0 ∷ []) []) from → Contains (take (i + 1) links) (from, to)
    here true e c = taken_next links i (0, 0) (from, to) within (both (eqb-true (get_or links i (0, 0)).1 to e) (⊎_elim (λ h. absurd (none_in from h)) (λ h. h) (Contains-push_cases [] (get_or links i (0, 0)).0 from c)))
      where
        both : (get_or links i (0, 0)).1 ≡ to → (get_or links i (0, 0)).0 ≡ from → get_or links i (0, 0) ≡ (from, to)
        both second first = ap₂ (λ (a b : ℕ). (a, b)) first second
    here false e c = absurd (none_in from c)

    forth : Contains (nodes_before new to) from → Contains (take (i + 1) links) (from, to)
    forth c = ⊎_elim
        (λ h. taken_before links i (0, 0) (from, to) within ((was from to).0 h))
        (λ h. here (nat_eq (get_or links i (0, 0)).1 to) refl h)
        (Contains-append_cases (nodes_before old to) (cond (nat_eq (get_or links i (0, 0)).1 to) ((get_or links i (0, 0)).0 ∷ []) []) from (subst (λ z. Contains z from) (added to) c))

    is_last : get_or links i (0, 0) ≡ (from, to) → Contains (nodes_before new to) from
    is_last e = subst (λ z. Contains z from) (sym (added to
        ∙ ap (λ b. nodes_before old to ++ cond b ((get_or links i (0, 0)).0 ∷ []) []) (eq-eqb (get_or links i (0, 0)).1 to (ap (λ (l : ℕ × ℕ). l.1) e))
        ∙ ap (λ z. nodes_before old to ++ z ∷ []) (ap (λ (l : ℕ × ℕ). l.0) e)))
        (Contains-append_right (nodes_before old to) (from ∷ []) from (first_in from []))

    back : Contains (take (i + 1) links) (from, to) → Contains (nodes_before new to) from
    back c = ⊎_elim
        (λ h. subst (λ z. Contains z from) (sym (added to)) (Contains-append_left (nodes_before old to) (cond (nat_eq (get_or links i (0, 0)).1 to) ((get_or links i (0, 0)).0 ∷ []) []) from ((was from to).1 h)))
        is_last
        (taken_cases links i (0, 0) (from, to) within c)
