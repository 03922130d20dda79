-- The nodes to which links lead, and the branches that show them.
use Rattle.std.proofs.Common.{◌≡◌, ◌∙◌, ap, sym, refl, subst, ℕ, ◌+◌, ◌<◌, ◌≤◌, List, [], ◌∷◌, ◌++◌, map, filter, Bool, true, false, cond, not, ◌&&◌, ◌||◌, nat_eq, nat_lt, Option, Some, None, Contains, ◌⊎◌, inl, inr, ⊎_elim, append_assoc, arith, not-suc-le-zero}
use Rattle.std.specs.List.{AllByRecursion}
use Rattle.std.proofs.lemmas.Bool.{eq-eqb, eqb-true, eqb-false, ltb-true, or_from}
use Rattle.std.proofs.lemmas.List.{map-append}
use Rattle.std.proofs.lemmas.List.Elements.{Contains-append_cases, Contains-append_left, Contains-append_right, Contains-push, Contains-push_cases}
use Rattle.std.proofs.lemmas.List.Folds.{list_any-append}
use Rattle.feats_tree.specs.trees.Branches.{AreBranches, below, children, ends_of, goes_below, is_expanded_in, shown_ends}
use Rattle.feats_tree.specs.trees.Reach.{HaveAll, IsLed, IsWithin, Reaches}
use Rattle.feats_tree.specs.trees.inner.Walks.{branch_at}
use Rattle.feats_tree.specs.declared.trees.trees.Branch.{Branch}

first_in : {A : Type 0} (x : A) (xs : List A) → Contains (x ∷ xs) x
first_in x xs = Contains-append_left (x ∷ []) xs x (Contains-push [] x)

later_in : {A : Type 0} (x y : A) (xs : List A) → Contains xs y → Contains (x ∷ xs) y
later_in x y xs c = Contains-append_right (x ∷ []) xs y c

in_cases : {A : Type 0} (x y : A) (xs : List A) → Contains (x ∷ xs) y → (x ≡ y) ⊎ Contains xs y
in_cases x y xs c = ⊎_elim (λ h. ⊎_elim (λ n. absurd (not-suc-le-zero n.1)) (λ e. inl e) (Contains-push_cases [] x y h)) (λ h. inr h) (Contains-append_cases (x ∷ []) xs y c)

-- the roots are led to
pub led_roots : (links : List (ℕ × ℕ)) (roots : List ℕ) (limit : Option ℕ) (some : List ℕ) → ((n : ℕ) → Contains some n → Contains roots n) → AllByRecursion (IsLed links roots limit) (map (branch_at 0) some)
led_roots links roots limit [] inside = tt
led_roots links roots limit (n ∷ ns) inside = (record { reached = Reaches.root n (inside n (first_in n ns)); within = shallow limit }, led_roots links roots limit ns (λ m c. inside m (later_in n m ns c)))
  where
    shallow : (o : Option ℕ) → IsWithin o 0
    shallow None = tt
    shallow (Some l) = let h : 0 ≤ l = omega arith in h

-- the ends of the links of a node that is led to
ends_led : (links : List (ℕ × ℕ)) (roots : List ℕ) (limit : Option ℕ) (node depth : ℕ) → Reaches links roots node → IsWithin limit depth → (some : List (ℕ × ℕ)) → ((l : ℕ × ℕ) → Contains some l → Contains links l)
    → AllByRecursion (IsLed links roots limit) (map (branch_at depth) (ends_of some node))
ends_led links roots limit node depth reached within [] inside = tt
ends_led links roots limit node depth reached within (l ∷ some) inside = go (ends_led links roots limit node depth reached within some (λ m c. inside m (later_in l m some c))) (nat_eq l.0 node) refl
  where
    go : AllByRecursion (IsLed links roots limit) (map (branch_at depth) (ends_of some node)) → (t : Bool) → nat_eq l.0 node ≡ t
        → AllByRecursion (IsLed links roots limit) (map (branch_at depth) (map (λ k. k.1) (cond t (l ∷ filter (λ k. nat_eq k.0 node) some) (filter (λ k. nat_eq k.0 node) some))))
    go rest true e = (record { reached = Reaches.link node l.1 reached (subst (λ z. Contains links (z, l.1)) (eqb-true l.0 node e) (inside l (first_in l some))); within = within }, rest)
    go rest false e = rest

put_in : (P : Branch → Type 0) (xs : List Branch) (w b : Branch) (cs ws : List Branch) → P b → AllByRecursion P cs → AllByRecursion P (xs ++ w ∷ ws) → AllByRecursion P ((xs ++ b ∷ []) ++ (cs ++ ws))
put_in P [] w b cs ws here new h = (here, join cs new)
  where
    join : (ys : List Branch) → AllByRecursion P ys → AllByRecursion P (ys ++ ws)
    join [] all = h.1
    join (y ∷ ys) all = (all.0, join ys all.1)
put_in P (x ∷ xs) w b cs ws here new h = (h.0, put_in P xs w b cs ws here new h.1)

at_place : (P : Branch → Type 0) (xs : List Branch) (w : Branch) (ws : List Branch) → AllByRecursion P (xs ++ w ∷ ws) → P w
at_place P [] w ws h = h.0
at_place P (x ∷ xs) w ws h = at_place P xs w ws h.1

-- the branches below the next one are led to
pub led_kept : (links : List (ℕ × ℕ)) (roots : List ℕ) (limit : Option ℕ) (shown : List Branch) (w : Branch) (ws : List Branch) (last again : Bool) (taken : List ℕ)
    → taken ≡ shown_ends links limit shown w.node w.depth → AllByRecursion (IsLed links roots limit) (shown ++ w ∷ ws)
    → AllByRecursion (IsLed links roots limit) ((shown ++ record { node = w.node; depth = w.depth; is_last = last; is_again = again } ∷ []) ++ (map (branch_at (w.depth + 1)) taken ++ ws))
led_kept links roots limit shown w ws last again taken is led =
    put_in (IsLed links roots limit) shown w (record { node = w.node; depth = w.depth; is_last = last; is_again = again }) (map (branch_at (w.depth + 1)) taken) ws
    (record { reached = here.reached; within = here.within }) (subst (λ z. AllByRecursion (IsLed links roots limit) (map (branch_at (w.depth + 1)) z)) (sym is) (go (goes_below limit w.depth) refl (is_expanded_in limit shown w.node))) led
  where
    here : IsLed links roots limit w
    here = at_place (IsLed links roots limit) shown w ws led

    deeper : (o : Option ℕ) (d : ℕ) → goes_below o d ≡ true → IsWithin o (d + 1)
    deeper None d e = tt
    deeper (Some l) d e = let h : d < l = ltb-true d l e in let k : d + 1 ≤ l = omega arith in k

    go : (t : Bool) → goes_below limit w.depth ≡ t → (x : Bool) → AllByRecursion (IsLed links roots limit) (map (branch_at (w.depth + 1)) (cond (t && not x) (ends_of links w.node) []))
    go true e true = tt
    go true e false = ends_led links roots limit w.node (w.depth + 1) here.reached (deeper limit w.depth e) links (λ l c. c)
    go false e x = tt

-- the first branch of a node
record First (branches : List Branch) (node : ℕ) : Type 0 where
  before : List Branch
  at : Branch
  after : List Branch
  split : branches ≡ before ++ at ∷ after
  is : at.node ≡ node
  first : is_expanded_in None before node ≡ false

first_from : (node : ℕ) (passed rest : List Branch) → is_expanded_in None passed node ≡ false → Contains (map (λ b. b.node) rest) node → First (passed ++ rest) node
first_from node passed [] fresh c = absurd (not-suc-le-zero c.1)
first_from node passed (b ∷ rest) fresh c = go (first_from node (passed ++ b ∷ []) rest) (nat_eq b.node node) refl
  where
    go : (is_expanded_in None (passed ++ b ∷ []) node ≡ false → Contains (map (λ d. d.node) rest) node → First ((passed ++ b ∷ []) ++ rest) node)
        → (t : Bool) → nat_eq b.node node ≡ t → First (passed ++ b ∷ rest) node
    go later true e = record { before = passed; at = b; after = rest; split = refl; is = eqb-true b.node node e; first = fresh }
    go later false e = subst (λ z. First z node) (append_assoc passed (b ∷ []) rest)
        (later
        (list_any-append (λ d. nat_eq d.node node && goes_below None d.depth) passed (b ∷ []) ∙ or_from (is_expanded_in None passed node) ((nat_eq b.node node && true) || false) fresh (ap (λ t. (t && true) || false) e))
        (⊎_elim (λ q. absurd (eqb-false b.node node e q)) (λ q. q) (in_cases b.node node (map (λ d. d.node) rest) c)))

end_in : (links : List (ℕ × ℕ)) (from to : ℕ) → Contains links (from, to) → Contains (ends_of links from) to
end_in [] from to c = absurd (not-suc-le-zero c.1)
end_in (l ∷ links) from to c = ⊎_elim here (λ q. go (nat_eq l.0 from) (end_in links from to q)) (in_cases l (from, to) links c)
  where
    here : l ≡ (from, to) → Contains (ends_of (l ∷ links) from) to
    here e = subst (λ z. Contains (map (λ k. k.1) (cond z (l ∷ filter (λ k. nat_eq k.0 from) links) (filter (λ k. nat_eq k.0 from) links))) to) (sym (eq-eqb l.0 from (ap (λ k. k.0) e)))
        (subst (λ z. Contains (l.1 ∷ ends_of links from) z) (ap (λ k. k.1) e) (first_in l.1 (ends_of links from)))

    go : (t : Bool) → Contains (ends_of links from) to → Contains (map (λ k. k.1) (cond t (l ∷ filter (λ k. nat_eq k.0 from) links) (filter (λ k. nat_eq k.0 from) links))) to
    go true q = later_in l.1 to (ends_of links from) q
    go false q = q

child_in : (d : ℕ) (after : List Branch) (node : ℕ) → Contains (children d after) node → Contains (map (λ b. b.node) after) node
child_in d [] node c = c
child_in d (b ∷ after) node c = go (child_in d after node) (nat_lt d b.depth) c
  where
    pick : (Contains (children d after) node → Contains (map (λ z. z.node) after) node) → (v : Bool)
        → Contains (map (λ z. z.node) (cond v (b ∷ filter (λ z. nat_eq z.depth (d + 1)) (below d after)) (filter (λ z. nat_eq z.depth (d + 1)) (below d after)))) node → Contains (b.node ∷ map (λ z. z.node) after) node
    pick more true r = ⊎_elim (λ e. subst (λ z. Contains (b.node ∷ map (λ y. y.node) after) z) e (first_in b.node (map (λ y. y.node) after)))
        (λ s. later_in b.node node (map (λ y. y.node) after) (more s)) (in_cases b.node node (children d after) r)
    pick more false r = later_in b.node node (map (λ y. y.node) after) (more r)

    go : (Contains (children d after) node → Contains (map (λ z. z.node) after) node) → (t : Bool)
        → Contains (map (λ z. z.node) (filter (λ z. nat_eq z.depth (d + 1)) (cond t (b ∷ below d after) []))) node → Contains (b.node ∷ map (λ z. z.node) after) node
    go more true q = pick more (nat_eq b.depth (d + 1)) q
    go more false q = absurd (not-suc-le-zero q.1)

filtered_in : (p : Branch → Bool) (bs : List Branch) (node : ℕ) → Contains (map (λ b. b.node) (filter p bs)) node → Contains (map (λ b. b.node) bs) node
filtered_in p [] node c = c
filtered_in p (b ∷ bs) node c = go (filtered_in p bs node) (p b) c
  where
    go : (Contains (map (λ z. z.node) (filter p bs)) node → Contains (map (λ z. z.node) bs) node) → (t : Bool)
        → Contains (map (λ z. z.node) (cond t (b ∷ filter p bs) (filter p bs))) node → Contains (b.node ∷ map (λ z. z.node) bs) node
    go more true q = ⊎_elim (λ e. subst (λ z. Contains (b.node ∷ map (λ y. y.node) bs) z) e (first_in b.node (map (λ y. y.node) bs)))
        (λ s. later_in b.node node (map (λ y. y.node) bs) (more s)) (in_cases b.node node (map (λ z. z.node) (filter p bs)) q)
    go more false q = later_in b.node node (map (λ y. y.node) bs) (more q)

-- without a limit each node to which links lead has a branch
pub have_all : (links : List (ℕ × ℕ)) (roots : List ℕ) (branches : List Branch) → AreBranches links roots None branches → HaveAll links roots branches
have_all links roots branches are node (Reaches.root n c) = filtered_in (λ b. nat_eq b.depth 0) branches node (subst (λ z. Contains z node) (sym are.at_roots) c)
have_all links roots branches are node (Reaches.link from to reached c) = go (first_from from [] branches refl (have_all links roots branches are from reached))
  where
    go : First branches from → Contains (map (λ b. b.node) branches) node
    go first = subst (λ z. Contains z node) (sym (ap (map (λ b. b.node)) first.split ∙ map-append (λ b. b.node) first.before (first.at ∷ first.after)))
        (Contains-append_right (map (λ b. b.node) first.before) (first.at.node ∷ map (λ b. b.node) first.after) node
        (later_in first.at.node node (map (λ b. b.node) first.after) (child_in first.at.depth first.after node (subst (λ z. Contains z node) (sym ends) (end_in links from node c)))))
      where
        ends : children first.at.depth first.after ≡ ends_of links from
        ends = (are.right first.before first.after first.at first.split).children ∙ ap (λ z. shown_ends links None first.before z first.at.depth) first.is
            ∙ ap (λ t. cond (not t) (ends_of links from) []) first.first
