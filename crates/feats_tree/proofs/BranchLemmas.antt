-- Lists of branches, when the branches below one of them are put after it.
use Rattle.std.proofs.Common.{◌≡◌, ◌∙◌, ap, refl, ℕ, ◌+◌, ◌<◌, ◌≤◌, List, [], ◌∷◌, ◌++◌, map, filter, Bool, true, false, cond, nat_eq, nat_lt, arith, le_trans}
use Rattle.std.proofs.lemmas.Bool.{eq-eqb, le-ltb, lt-ltb, ltb-true, ne_eqb}
use Rattle.feats_tree.specs.trees.Branches.{StepsFrom, below, children, goes_on}
use Rattle.feats_tree.specs.trees.inner.Walks.{FallsFrom, begins_at, branch_at}
use Rattle.feats_tree.specs.declared.trees.trees.Branch.{Branch}

-- the branch with these marks
abbrev pub marked : Branch → Bool → Bool → Branch
marked w last again = record { node = w.node; depth = w.depth; is_last = last; is_again = again }

step_where : (p : Branch → Bool) (t : Bool) (x y : Branch) (u v : List Branch) → x.node ≡ y.node → p x ≡ p y → map (λ b. b.node) (filter p u) ≡ map (λ b. b.node) (filter p v)
    → map (λ b. b.node) (filter p (cond t (x ∷ u) [])) ≡ map (λ b. b.node) (filter p (cond t (y ∷ v) []))
step_where p true x y u v node same h = ap (λ t. map (λ b. b.node) (cond t (x ∷ filter p u) (filter p u))) same ∙ go (p y)
  where
    go : (t : Bool) → map (λ b. b.node) (cond t (x ∷ filter p u) (filter p u)) ≡ map (λ b. b.node) (cond t (y ∷ filter p v) (filter p v))
    go true = ap (λ n. n ∷ map (λ b. b.node) (filter p u)) node ∙ ap (λ ns. y.node ∷ ns) h
    go false = h
step_where p false x y u v node same h = refl

-- branches two levels deeper or more aren't children
skip_deeper : (d e : ℕ) (ns : List ℕ) (ws : List Branch) → d + 1 < e → children d (map (branch_at e) ns ++ ws) ≡ children d ws
skip_deeper d e [] ws h = refl
skip_deeper d e (n ∷ ns) ws h =
    let deeper : nat_lt d e ≡ true = lt-ltb d e (omega arith) in
    let no : nat_eq e (d + 1) ≡ false = ne_eqb e (d + 1) (λ q. absurd (omega arith)) in
    ap (λ t. map (λ b. b.node) (filter (λ b. nat_eq b.depth (d + 1)) (cond t (branch_at e n ∷ below d (map (branch_at e) ns ++ ws)) []))) deeper
    ∙ ap (λ t. map (λ b. b.node) (cond t (branch_at e n ∷ filter (λ b. nat_eq b.depth (d + 1)) (below d (map (branch_at e) ns ++ ws))) (filter (λ b. nat_eq b.depth (d + 1)) (below d (map (branch_at e) ns ++ ws))))) no
    ∙ skip_deeper d e ns ws h

-- the branches below `w`, put after it, are no children of those before it
pub children_kept : (d : ℕ) (xs : List Branch) (w : Branch) (last again : Bool) (ns : List ℕ) (ws : List Branch)
    → children d ((xs ++ marked w last again ∷ []) ++ (map (branch_at (w.depth + 1)) ns ++ ws)) ≡ children d (xs ++ w ∷ ws)
children_kept d [] w last again ns ws = go (nat_lt d w.depth) refl
  where
    go : (t : Bool) → nat_lt d w.depth ≡ t
        → map (λ b. b.node) (filter (λ b. nat_eq b.depth (d + 1)) (cond t (marked w last again ∷ below d (map (branch_at (w.depth + 1)) ns ++ ws)) []))
        ≡ map (λ b. b.node) (filter (λ b. nat_eq b.depth (d + 1)) (cond t (w ∷ below d ws) []))
    go true e = let h : d < w.depth = ltb-true d w.depth e in
        step_where (λ b. nat_eq b.depth (d + 1)) true (marked w last again) w (below d (map (branch_at (w.depth + 1)) ns ++ ws)) (below d ws) refl refl
        (skip_deeper d (w.depth + 1) ns ws (omega arith))
    go false e = refl
children_kept d (x ∷ xs) w last again ns ws =
    step_where (λ b. nat_eq b.depth (d + 1)) (nat_lt d x.depth) x x (below d ((xs ++ marked w last again ∷ []) ++ (map (branch_at (w.depth + 1)) ns ++ ws))) (below d (xs ++ w ∷ ws)) refl refl
    (children_kept d xs w last again ns ws)

-- the branches that fall from this depth aren't below it
none_below : (d : ℕ) (ws : List Branch) → FallsFrom d ws → below d ws ≡ []
none_below d [] f = refl
none_below d (w ∷ ws) f = ap (λ t. cond t (w ∷ below d ws) []) (le-ltb d w.depth f.0)

-- the branches that are put after `w` are its children
pub children_new : (d : ℕ) (ns : List ℕ) (ws : List Branch) → FallsFrom d ws → children d (map (branch_at (d + 1)) ns ++ ws) ≡ ns
children_new d [] ws f = ap (λ bs. map (λ b. b.node) (filter (λ b. nat_eq b.depth (d + 1)) bs)) (none_below d ws f)
children_new d (n ∷ ns) ws f =
    let deeper : nat_lt d (d + 1) ≡ true = lt-ltb d (d + 1) (omega arith) in
    let same : nat_eq (d + 1) (d + 1) ≡ true = eq-eqb (d + 1) (d + 1) refl in
    ap (λ t. map (λ b. b.node) (filter (λ b. nat_eq b.depth (d + 1)) (cond t (branch_at (d + 1) n ∷ below d (map (branch_at (d + 1)) ns ++ ws)) []))) deeper
    ∙ ap (λ t. map (λ b. b.node) (cond t (branch_at (d + 1) n ∷ filter (λ b. nat_eq b.depth (d + 1)) (below d (map (branch_at (d + 1)) ns ++ ws))) (filter (λ b. nat_eq b.depth (d + 1)) (below d (map (branch_at (d + 1)) ns ++ ws))))) same
    ∙ ap (λ z. n ∷ z) (children_new d ns ws f)

on_deeper : (d e : ℕ) (ns : List ℕ) (ws : List Branch) → d < e → goes_on d (map (branch_at e) ns ++ ws) ≡ goes_on d ws
on_deeper d e [] ws h = refl
on_deeper d e (n ∷ ns) ws h = ap (λ t. cond t (goes_on d (map (branch_at e) ns ++ ws)) (nat_eq e d)) (lt-ltb d e h) ∙ on_deeper d e ns ws h

-- a level goes on after the branches that are put in as it did
pub goes_on_kept : (d : ℕ) (xs : List Branch) (w : Branch) (last again : Bool) (ns : List ℕ) (ws : List Branch)
    → goes_on d ((xs ++ marked w last again ∷ []) ++ (map (branch_at (w.depth + 1)) ns ++ ws)) ≡ goes_on d (xs ++ w ∷ ws)
goes_on_kept d [] w last again ns ws = go (nat_lt d w.depth) refl
  where
    go : (t : Bool) → nat_lt d w.depth ≡ t → cond t (goes_on d (map (branch_at (w.depth + 1)) ns ++ ws)) (nat_eq w.depth d) ≡ cond t (goes_on d ws) (nat_eq w.depth d)
    go true e = let h : d < w.depth = ltb-true d w.depth e in on_deeper d (w.depth + 1) ns ws (omega arith)
    go false e = refl
goes_on_kept d (x ∷ xs) w last again ns ws = ap (λ g. cond (nat_lt d x.depth) g (nat_eq x.depth d)) (goes_on_kept d xs w last again ns ws)

falls_begins : (d : ℕ) (ws : List Branch) → FallsFrom d ws → goes_on d ws ≡ begins_at d ws
falls_begins d [] f = refl
falls_begins d (w ∷ ws) f = ap (λ t. cond t (goes_on d ws) (nat_eq w.depth d)) (le-ltb d w.depth f.0)

-- the level of a branch goes on exactly if the next one that waits is at it
pub goes_on_new : (d : ℕ) (ns : List ℕ) (ws : List Branch) → FallsFrom d ws → goes_on d (map (branch_at (d + 1)) ns ++ ws) ≡ begins_at d ws
goes_on_new d ns ws f = on_deeper d (d + 1) ns ws (omega arith) ∙ falls_begins d ws f

steps_weaker : (s t : ℕ) (ws : List Branch) → StepsFrom s ws → s ≤ t → StepsFrom t ws
steps_weaker s t [] h le = tt
steps_weaker s t (w ∷ ws) h le = (le_trans h.0 le, h.1)

steps_new : (e t : ℕ) (ns : List ℕ) (ws : List Branch) → StepsFrom e ws → e ≤ t → StepsFrom t (map (branch_at e) ns ++ ws)
steps_new e t [] ws h le = steps_weaker e t ws h le
steps_new e t (n ∷ ns) ws h le = (le, steps_new e (e + 1) ns ws h (omega arith))

pub steps_kept : (s : ℕ) (xs : List Branch) (w : Branch) (last again : Bool) (ns : List ℕ) (ws : List Branch)
    → StepsFrom s (xs ++ w ∷ ws) → StepsFrom s ((xs ++ marked w last again ∷ []) ++ (map (branch_at (w.depth + 1)) ns ++ ws))
steps_kept s [] w last again ns ws h = (h.0, steps_new (w.depth + 1) (w.depth + 1) ns ws h.1 (omega arith))
steps_kept s (x ∷ xs) w last again ns ws h = (h.0, steps_kept (x.depth + 1) xs w last again ns ws h.1)

falls_weaker : (d e : ℕ) (ws : List Branch) → FallsFrom d ws → d ≤ e → FallsFrom e ws
falls_weaker d e [] f le = tt
falls_weaker d e (w ∷ ws) f le = (le_trans f.0 le, f.1)

pub falls_new : (d e : ℕ) (ns : List ℕ) (ws : List Branch) → FallsFrom d ws → d ≤ e → FallsFrom e (map (branch_at e) ns ++ ws)
falls_new d e [] ws f le = falls_weaker d e ws f le
falls_new d e (n ∷ ns) ws f le = (let h : e ≤ e = omega arith in h, falls_new d e ns ws f le)

no_roots : (e : ℕ) (ns : List ℕ) (ws : List Branch) → 0 < e → map (λ b. b.node) (filter (λ b. nat_eq b.depth 0) (map (branch_at e) ns ++ ws)) ≡ map (λ b. b.node) (filter (λ b. nat_eq b.depth 0) ws)
no_roots e [] ws h = refl
no_roots e (n ∷ ns) ws h =
    ap (λ t. map (λ b. b.node) (cond t (branch_at e n ∷ filter (λ b. nat_eq b.depth 0) (map (branch_at e) ns ++ ws)) (filter (λ b. nat_eq b.depth 0) (map (branch_at e) ns ++ ws)))) (ne_eqb e 0 (λ q. absurd (omega arith)))
    ∙ no_roots e ns ws h

pub roots_kept : (xs : List Branch) (w : Branch) (last again : Bool) (ns : List ℕ) (ws : List Branch)
    → map (λ b. b.node) (filter (λ b. nat_eq b.depth 0) ((xs ++ marked w last again ∷ []) ++ (map (branch_at (w.depth + 1)) ns ++ ws))) ≡ map (λ b. b.node) (filter (λ b. nat_eq b.depth 0) (xs ++ w ∷ ws))
roots_kept [] w last again ns ws =
    step_where (λ b. nat_eq b.depth 0) true (marked w last again) w (map (branch_at (w.depth + 1)) ns ++ ws) ws refl refl (no_roots (w.depth + 1) ns ws (omega arith))
roots_kept (x ∷ xs) w last again ns ws =
    step_where (λ b. nat_eq b.depth 0) true x x ((xs ++ marked w last again ∷ []) ++ (map (branch_at (w.depth + 1)) ns ++ ws)) (xs ++ w ∷ ws) refl refl (roots_kept xs w last again ns ws)
