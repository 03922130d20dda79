-- What is known of each node, after a change.
use Rattle.std.proofs.Common.{◌≡◌, ◌∙◌, ap, sym, refl, subst, ℕ, zero, suc, ◌+◌, ◌<◌, ◌≤◌, ◌⊎◌, List, [], ◌∷◌, ◌++◌, map, filter, length, take, set, get_or, Bool, true, false, cond, not, ◌||◌, nat_eq, inl, inr, arith, le_of_suc-le-suc, not-suc-le-zero}
use Rattle.std.proofs.lemmas.Bool.{cases_eq, eq-eqb, ne_eqb}
use Rattle.std.proofs.lemmas.List.{length_push, map-append}
use Rattle.std.proofs.lemmas.List.Elements.{filter_more}
use Rattle.feats_tree.specs.trees.Branches.{ends_of, is_empty}
use Rattle.feats_tree.specs.trees.inner.Nodes.{AreSame, TakesEnds, ends_at, shown_at, total}
use Rattle.feats_tree.specs.declared.trees.nodes.Node.{Node}

ends_push : (nodes : List Node) (n : Node) (k : ℕ) → n.ends.items ≡ [] → ends_at (nodes ++ n ∷ []) k ≡ ends_at nodes k
ends_push [] n zero h = h
ends_push [] n (suc k) h = refl
ends_push (m ∷ ms) n zero h = refl
ends_push (m ∷ ms) n (suc k) h = ends_push ms n k h

shown_push : (nodes : List Node) (n : Node) (k : ℕ) → n.is_shown ≡ false → shown_at (nodes ++ n ∷ []) k ≡ shown_at nodes k
shown_push [] n zero h = h
shown_push [] n (suc k) h = refl
shown_push (m ∷ ms) n zero h = refl
shown_push (m ∷ ms) n (suc k) h = shown_push ms n k h

-- a node without links was appended
pub same_push : (first nodes new : List Node) (n : Node) → AreSame first nodes → new ≡ nodes ++ n ∷ [] → n.ends.items ≡ [] → n.is_shown ≡ false → AreSame first new
same_push first nodes new n same is none hidden = record {
  ends = λ k. ap (λ z. ends_at z k) is ∙ ends_push nodes n k none ∙ same.ends k;
  shown = λ k. ap (λ z. shown_at z k) is ∙ shown_push nodes n k hidden ∙ same.shown k;
}

pub length_more : (i : ℕ) (nodes new : List Node) (n : Node) → i ≤ length nodes → new ≡ nodes ++ n ∷ [] → i + 1 ≤ length new
length_more i nodes new n h is = let e : length new ≡ length nodes + 1 = ap length is ∙ length_push nodes n in omega arith

ends_more : (links : List (ℕ × ℕ)) (i : ℕ) (d : ℕ × ℕ) (node : ℕ) → i < length links
    → ends_of (take i links) node ++ cond (nat_eq (get_or links i d).0 node) ((get_or links i d).1 ∷ []) [] ≡ ends_of (take (i + 1) links) node
ends_more links i d node h = sym (
    ap (map (λ l. l.1)) (filter_more (λ l. nat_eq l.0 node) links i d h)
    ∙ map-append (λ l. l.1) (filter (λ l. nat_eq l.0 node) (take i links)) (cond (nat_eq (get_or links i d).0 node) (get_or links i d ∷ []) [])
    ∙ ap (λ z. ends_of (take i links) node ++ z) (one (nat_eq (get_or links i d).0 node)))
  where
    one : (b : Bool) → map (λ l. l.1) (cond b (get_or links i d ∷ []) []) ≡ cond b ((get_or links i d).1 ∷ []) []
    one true = refl
    one false = refl

-- one more link was added
pub ends_added : (links : List (ℕ × ℕ)) (i : ℕ) (d : ℕ × ℕ) (node : ℕ) (old new : List ℕ) → i < length links → old ≡ ends_of (take i links) node
    → new ≡ old ++ cond (nat_eq (get_or links i d).0 node) ((get_or links i d).1 ∷ []) [] → new ≡ ends_of (take (i + 1) links) node
ends_added links i d node old new h was is = is ∙ ap (λ z. z ++ cond (nat_eq (get_or links i d).0 node) ((get_or links i d).1 ∷ []) []) was ∙ ends_more links i d node h

-- a look-up after a write
at_same : {A : Type 0} (f : List Node → ℕ → A) (g : Node → A) → ((m : Node) (ms : List Node) → f (m ∷ ms) zero ≡ g m) → ((m : Node) (ms : List Node) (k : ℕ) → f (m ∷ ms) (suc k) ≡ f ms k)
    → (nodes : List Node) (i : ℕ) (n : Node) → i < length nodes → f (set nodes i n) i ≡ g n
at_same f g z s [] i n h = absurd (not-suc-le-zero h)
at_same f g z s (m ∷ ms) zero n h = z n ms
at_same f g z s (m ∷ ms) (suc i) n h = s m (set ms i n) i ∙ at_same f g z s ms i n (le_of_suc-le-suc h)

at_other : {A : Type 0} (f : List Node → ℕ → A) → ((m : Node) (ms : List Node) (k : ℕ) → f (m ∷ ms) (suc k) ≡ f ms k) → ((m o : Node) (ms os : List Node) → f (m ∷ ms) zero ≡ f (m ∷ os) zero)
    → (nodes : List Node) (i k : ℕ) (n : Node) → (i ≡ k → ⊥) → f (set nodes i n) k ≡ f nodes k
at_other f s z [] i k n h = refl
at_other f s z (m ∷ ms) zero zero n h = absurd (h refl)
at_other f s z (m ∷ ms) zero (suc k) n h = s n ms k ∙ sym (s m ms k)
at_other f s z (m ∷ ms) (suc i) zero n h = z m n (set ms i n) ms
at_other f s z (m ∷ ms) (suc i) (suc k) n h = s m (set ms i n) k ∙ at_other f s z ms i k n (λ e. h (ap suc e)) ∙ sym (s m ms k)

ends_same : (nodes : List Node) (i : ℕ) (n : Node) → i < length nodes → ends_at (set nodes i n) i ≡ n.ends.items
ends_same = at_same ends_at (λ n. n.ends.items) (λ m ms. refl) (λ m ms k. refl)

ends_other : (nodes : List Node) (i k : ℕ) (n : Node) → (i ≡ k → ⊥) → ends_at (set nodes i n) k ≡ ends_at nodes k
ends_other = at_other ends_at (λ m ms k. refl) (λ m o ms os. refl)

shown_same : (nodes : List Node) (i : ℕ) (n : Node) → i < length nodes → shown_at (set nodes i n) i ≡ n.is_shown
shown_same = at_same shown_at (λ n. n.is_shown) (λ m ms. refl) (λ m ms k. refl)

shown_other : (nodes : List Node) (i k : ℕ) (n : Node) → (i ≡ k → ⊥) → shown_at (set nodes i n) k ≡ shown_at nodes k
shown_other = at_other shown_at (λ m ms k. refl) (λ m o ms os. refl)

-- a look-up at a place is that of the node there
ends_there : (nodes : List Node) (i : ℕ) (d : Node) → i < length nodes → ends_at nodes i ≡ (get_or nodes i d).ends.items
ends_there [] i d h = absurd (not-suc-le-zero h)
ends_there (m ∷ ms) zero d h = refl
ends_there (m ∷ ms) (suc i) d h = ends_there ms i d (le_of_suc-le-suc h)

shown_there : (nodes : List Node) (i : ℕ) (d : Node) → i < length nodes → shown_at nodes i ≡ (get_or nodes i d).is_shown
shown_there [] i d h = absurd (not-suc-le-zero h)
shown_there (m ∷ ms) zero d h = refl
shown_there (m ∷ ms) (suc i) d h = shown_there ms i d (le_of_suc-le-suc h)

-- past the end nothing is known
ends_past : (nodes : List Node) (i : ℕ) → length nodes < suc i → ends_at nodes i ≡ []
ends_past [] i h = refl
ends_past (m ∷ ms) zero h = absurd (not-suc-le-zero (le_of_suc-le-suc h))
ends_past (m ∷ ms) (suc i) h = ends_past ms i (le_of_suc-le-suc h)

shown_past : (nodes : List Node) (i : ℕ) → length nodes < suc i → shown_at nodes i ≡ false
shown_past [] i h = refl
shown_past (m ∷ ms) zero h = absurd (not-suc-le-zero (le_of_suc-le-suc h))
shown_past (m ∷ ms) (suc i) h = shown_past ms i (le_of_suc-le-suc h)

total_set : (nodes : List Node) (i : ℕ) (n d : Node) → i < length nodes → n.ends.items ≡ [] → total (set nodes i n) + length (get_or nodes i d).ends.items ≡ total nodes
total_set [] i n d h none = absurd (not-suc-le-zero h)
total_set (m ∷ ms) zero n d h none = let e : length n.ends.items ≡ 0 = ap length none in omega arith
total_set (m ∷ ms) (suc i) n d h none = let e : total (set ms i n) + length (get_or ms i d).ends.items ≡ total ms = total_set ms i n d (le_of_suc-le-suc h) none in omega arith

-- the ends of a node were taken
pub take_set : (nodes new : List Node) (i : ℕ) (n d : Node) (taken : List ℕ) → new ≡ set nodes i n → i < length nodes → taken ≡ (get_or nodes i d).ends.items
    → n.ends.items ≡ [] → n.is_shown ≡ ((get_or nodes i d).is_shown || not (is_empty (get_or nodes i d).ends.items)) → TakesEnds nodes new i taken
take_set nodes new i n d taken is within ends none shown = record {
  are_ends = ends ∙ sym (ends_there nodes i d within);
  ends = λ k. ap (λ z. ends_at z k) is ∙ at k (cases_eq i k);
  shown = λ k. ap (λ z. shown_at z k) is ∙ mark k (cases_eq i k);
  fewer = ap (λ z. total z + length taken) is ∙ ap (λ z. total (set nodes i n) + length z) ends ∙ total_set nodes i n d within none;
}
  where
    at : (k : ℕ) → (i ≡ k) ⊎ (i ≡ k → ⊥) → ends_at (set nodes i n) k ≡ cond (nat_eq i k) [] (ends_at nodes k)
    at k (inl e) = subst (λ z. ends_at (set nodes i n) z ≡ cond (nat_eq i z) [] (ends_at nodes z)) e
        (ends_same nodes i n within ∙ none ∙ ap (λ b. cond b [] (ends_at nodes i)) (sym (eq-eqb i i refl)))
    at k (inr e) = ends_other nodes i k n e ∙ ap (λ b. cond b [] (ends_at nodes k)) (sym (ne_eqb i k e))

    known : shown_at (set nodes i n) i ≡ (shown_at nodes i || not (is_empty (ends_at nodes i)))
    known = shown_same nodes i n within ∙ shown ∙ ap (λ z. (get_or nodes i d).is_shown || not (is_empty z)) (sym (ends_there nodes i d within))
        ∙ ap (λ z. z || not (is_empty (ends_at nodes i))) (sym (shown_there nodes i d within))

    mark : (k : ℕ) → (i ≡ k) ⊎ (i ≡ k → ⊥) → shown_at (set nodes i n) k ≡ cond (nat_eq i k) (shown_at nodes k || not (is_empty (ends_at nodes k))) (shown_at nodes k)
    mark k (inl e) = subst (λ z. shown_at (set nodes i n) z ≡ cond (nat_eq i z) (shown_at nodes z || not (is_empty (ends_at nodes z))) (shown_at nodes z)) e
        (known ∙ ap (λ b. cond b (shown_at nodes i || not (is_empty (ends_at nodes i))) (shown_at nodes i)) (sym (eq-eqb i i refl)))
    mark k (inr e) = shown_other nodes i k n e ∙ ap (λ b. cond b (shown_at nodes k || not (is_empty (ends_at nodes k))) (shown_at nodes k)) (sym (ne_eqb i k e))

-- nothing is taken past the end
pub take_past : (nodes : List Node) (i : ℕ) → length nodes < suc i → TakesEnds nodes nodes i []
take_past nodes i h = record {
  are_ends = sym (ends_past nodes i h);
  ends = λ k. at k (cases_eq i k);
  shown = λ k. mark k (cases_eq i k);
  fewer = let e : total nodes + 0 ≡ total nodes = omega arith in e;
}
  where
    at : (k : ℕ) → (i ≡ k) ⊎ (i ≡ k → ⊥) → ends_at nodes k ≡ cond (nat_eq i k) [] (ends_at nodes k)
    at k (inl e) = subst (λ z. ends_at nodes z ≡ cond (nat_eq i z) [] (ends_at nodes z)) e (ends_past nodes i h ∙ ap (λ b. cond b [] (ends_at nodes i)) (sym (eq-eqb i i refl)))
    at k (inr e) = ap (λ b. cond b [] (ends_at nodes k)) (sym (ne_eqb i k e))

    mark : (k : ℕ) → (i ≡ k) ⊎ (i ≡ k → ⊥) → shown_at nodes k ≡ cond (nat_eq i k) (shown_at nodes k || not (is_empty (ends_at nodes k))) (shown_at nodes k)
    mark k (inl e) = subst (λ z. shown_at nodes z ≡ cond (nat_eq i z) (shown_at nodes z || not (is_empty (ends_at nodes z))) (shown_at nodes z)) e
        (shown_past nodes i h
        ∙ sym (ap (λ b. cond b (shown_at nodes i || not (is_empty (ends_at nodes i))) (shown_at nodes i)) (eq-eqb i i refl)
        ∙ ap (λ z. shown_at nodes i || not (is_empty z)) (ends_past nodes i h) ∙ ap (λ z. z || false) (shown_past nodes i h)))
    mark k (inr e) = ap (λ b. cond b (shown_at nodes k || not (is_empty (ends_at nodes k))) (shown_at nodes k)) (sym (ne_eqb i k e))
