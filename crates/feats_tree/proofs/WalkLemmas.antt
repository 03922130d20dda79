-- The steps of a walk over trees.
use Rattle.std.proofs.Common.{◌≡◌, ◌∙◌, ap, sym, refl, subst, ℕ, ◌+◌, ◌<◌, ◌≤◌, List, [], ◌∷◌, ◌++◌, map, filter, length, length-append, reverse, Bool, true, false, cond, not, ◌||◌, ◌&&◌, nat_eq, Option, append_assoc, append-nil, arith}
use Rattle.std.proofs.lemmas.List.{length-map, length-reverse, length_push, reverse-append}
use Rattle.std.proofs.lemmas.List.Folds.{list_any-append}
use Rattle.std.proofs.lemmas.List.Elements.{All-from_recursion}
use Rattle.std.specs.List.{AllByRecursion}
use Rattle.feats_tree.specs.trees.Branches.{AreBranches, IsRight, StepsFrom, ends_of, goes_below, goes_on, is_empty, is_expanded_in, shown_ends}
use Rattle.feats_tree.specs.trees.Reach.{IsLed}
use Rattle.feats_tree.specs.trees.inner.Nodes.{ends_at, shown_at, total}
use Rattle.feats_tree.specs.trees.inner.Walks.{AreRight, FallsFrom, IsWalk, Takes, begins_at, branch_at, shown_branch, waits_of}
use Rattle.feats_tree.proofs.BranchLemmas.{children_kept, children_new, falls_new, goes_on_kept, goes_on_new, marked, roots_kept, steps_kept}
use Rattle.feats_tree.proofs.ReachLemmas.{led_kept, led_roots}
use Rattle.feats_tree.specs.declared.trees.nodes.Node.{Node}
use Rattle.feats_tree.specs.declared.trees.trees.Branch.{Branch}
use Rattle.feats_tree.specs.declared.trees.waiting.Waiting.{Waiting}

-- a branch is right after the next one was shown, as it was before
right_kept : (links : List (ℕ × ℕ)) (limit : Option ℕ) (before : List Branch) (x : Branch) (xs : List Branch) (w : Branch) (last again : Bool) (ns : List ℕ) (ws : List Branch)
    → IsRight links limit before x (xs ++ w ∷ ws) → IsRight links limit before x ((xs ++ marked w last again ∷ []) ++ (map (branch_at (w.depth + 1)) ns ++ ws))
right_kept links limit before x xs w last again ns ws r = record {
  children = children_kept x.depth xs w last again ns ws ∙ r.children;
  is_again = r.is_again;
}

all_right : (links : List (ℕ × ℕ)) (limit : Option ℕ) (before shown all : List Branch) (w : Branch) (last again : Bool) (ns : List ℕ) (ws : List Branch)
    → before ++ shown ≡ all → AreRight links limit before shown (w ∷ ws)
    → IsRight links limit all (marked w last again) (map (branch_at (w.depth + 1)) ns ++ ws) → last ≡ not (goes_on w.depth (map (branch_at (w.depth + 1)) ns ++ ws))
    → AreRight links limit before (shown ++ marked w last again ∷ []) (map (branch_at (w.depth + 1)) ns ++ ws)
all_right links limit before [] all w last again ns ws e h right is =
    (subst (λ z. IsRight links limit z (marked w last again) (map (branch_at (w.depth + 1)) ns ++ ws)) (sym e ∙ append-nil before) right, is, tt)
all_right links limit before (x ∷ shown) all w last again ns ws e h right is = (
  right_kept links limit before x shown w last again ns ws h.0,
  h.1 ∙ ap not (sym (goes_on_kept x.depth shown w last again ns ws)),
  all_right links limit (before ++ x ∷ []) shown all w last again ns ws (append_assoc before (x ∷ []) shown ∙ e) h.2 right is,
)

-- the ends that are shown below a branch are those that the definition says
ends_shown : (links : List (ℕ × ℕ)) (limit : Option ℕ) (old new : List Node) (shown : List Branch) (depth node : ℕ) (taken : List ℕ)
    → ((n : ℕ) → ends_at old n ≡ cond (is_expanded_in limit shown n) [] (ends_of links n)) → Takes limit old new depth node taken → taken ≡ shown_ends links limit shown node depth
ends_shown links limit old new shown depth node taken ends takes = go (goes_below limit depth) refl (is_expanded_in limit shown node) refl
  where
    go : (t : Bool) → goes_below limit depth ≡ t → (x : Bool) → is_expanded_in limit shown node ≡ x → taken ≡ shown_ends links limit shown node depth
    go true e true f = (takes.allowed e).are_ends ∙ ends node ∙ ap (λ b. cond b [] (ends_of links node)) f
        ∙ sym (ap (λ b. cond (goes_below limit depth && not b) (ends_of links node) []) f ∙ ap (λ b. cond (b && false) (ends_of links node) []) e)
    go true e false f = (takes.allowed e).are_ends ∙ ends node ∙ ap (λ b. cond b [] (ends_of links node)) f
        ∙ sym (ap (λ b. cond (goes_below limit depth && not b) (ends_of links node) []) f ∙ ap (λ b. cond (b && true) (ends_of links node) []) e)
    go false e x f = (takes.refused e).0 ∙ sym (ap (λ b. cond (b && not (is_expanded_in limit shown node)) (ends_of links node) []) e)

expanded_push : (limit : Option ℕ) (shown : List Branch) (b : Branch) (n : ℕ)
    → is_expanded_in limit (shown ++ b ∷ []) n ≡ (is_expanded_in limit shown n || ((nat_eq b.node n && goes_below limit b.depth) || false))
expanded_push limit shown b n = list_any-append (λ c. nat_eq c.node n && goes_below limit c.depth) shown (b ∷ [])

-- what isn't shown of each node after the next branch
ends_next : (links : List (ℕ × ℕ)) (limit : Option ℕ) (old new : List Node) (shown : List Branch) (b : Branch) (taken : List ℕ)
    → ((n : ℕ) → ends_at old n ≡ cond (is_expanded_in limit shown n) [] (ends_of links n)) → Takes limit old new b.depth b.node taken
    → (n : ℕ) → ends_at new n ≡ cond (is_expanded_in limit (shown ++ b ∷ []) n) [] (ends_of links n)
ends_next links limit old new shown b taken ends takes n = go (goes_below limit b.depth) refl ∙ sym (ap (λ t. cond t [] (ends_of links n)) (expanded_push limit shown b n))
  where
    pick : (x e : Bool) → cond x [] (cond e [] (ends_of links n)) ≡ cond (e || ((x && true) || false)) [] (ends_of links n)
    pick true true = refl
    pick true false = refl
    pick false true = refl
    pick false false = refl

    leave : (x e : Bool) → cond e [] (ends_of links n) ≡ cond (e || ((x && false) || false)) [] (ends_of links n)
    leave true true = refl
    leave true false = refl
    leave false true = refl
    leave false false = refl

    go : (t : Bool) → goes_below limit b.depth ≡ t → ends_at new n ≡ cond (is_expanded_in limit shown n || ((nat_eq b.node n && goes_below limit b.depth) || false)) [] (ends_of links n)
    go true e = (takes.allowed e).ends n ∙ ap (λ z. cond (nat_eq b.node n) [] z) (ends n) ∙ pick (nat_eq b.node n) (is_expanded_in limit shown n)
        ∙ ap (λ t. cond (is_expanded_in limit shown n || ((nat_eq b.node n && t) || false)) [] (ends_of links n)) (sym e)
    go false e = ap (λ z. ends_at z n) (takes.refused e).1 ∙ ends n ∙ leave (nat_eq b.node n) (is_expanded_in limit shown n)
        ∙ ap (λ t. cond (is_expanded_in limit shown n || ((nat_eq b.node n && t) || false)) [] (ends_of links n)) (sym e)

again_next : (links : List (ℕ × ℕ)) (limit : Option ℕ) (old new : List Node) (shown : List Branch) (b : Branch) (taken : List ℕ)
    → ((n : ℕ) → ends_at old n ≡ cond (is_expanded_in limit shown n) [] (ends_of links n))
    → ((n : ℕ) → shown_at old n ≡ (is_expanded_in limit shown n && not (is_empty (ends_of links n)))) → Takes limit old new b.depth b.node taken
    → (n : ℕ) → shown_at new n ≡ (is_expanded_in limit (shown ++ b ∷ []) n && not (is_empty (ends_of links n)))
again_next links limit old new shown b taken ends again takes n = go (goes_below limit b.depth) refl ∙ sym (ap (λ t. t && not (is_empty (ends_of links n))) (expanded_push limit shown b n))
  where
    pick : (x e : Bool) (ns : List ℕ) → cond x ((e && not (is_empty ns)) || not (is_empty (cond e [] ns))) (e && not (is_empty ns)) ≡ ((e || ((x && true) || false)) && not (is_empty ns))
    pick true true [] = refl
    pick true true (m ∷ ms) = refl
    pick true false ns = refl
    pick false true ns = refl
    pick false false ns = refl

    leave : (x e s : Bool) → (e && s) ≡ ((e || ((x && false) || false)) && s)
    leave true true s = refl
    leave true false s = refl
    leave false true s = refl
    leave false false s = refl

    go : (t : Bool) → goes_below limit b.depth ≡ t → shown_at new n ≡ ((is_expanded_in limit shown n || ((nat_eq b.node n && goes_below limit b.depth) || false)) && not (is_empty (ends_of links n)))
    go true e = (takes.allowed e).shown n
        ∙ ap (λ z. cond (nat_eq b.node n) (z || not (is_empty (ends_at old n))) z) (again n)
        ∙ ap (λ z. cond (nat_eq b.node n) ((is_expanded_in limit shown n && not (is_empty (ends_of links n))) || not (is_empty z)) (is_expanded_in limit shown n && not (is_empty (ends_of links n)))) (ends n)
        ∙ pick (nat_eq b.node n) (is_expanded_in limit shown n) (ends_of links n)
        ∙ ap (λ t. (is_expanded_in limit shown n || ((nat_eq b.node n && t) || false)) && not (is_empty (ends_of links n))) (sym e)
    go false e = ap (λ z. shown_at z n) (takes.refused e).1 ∙ again n ∙ leave (nat_eq b.node n) (is_expanded_in limit shown n) (not (is_empty (ends_of links n)))
        ∙ ap (λ t. (is_expanded_in limit shown n || ((nat_eq b.node n && t) || false)) && not (is_empty (ends_of links n))) (sym e)

-- the next branch was shown
step : (links : List (ℕ × ℕ)) (roots : List ℕ) (limit : Option ℕ) (old new : List Node) (shown : List Branch) (w : Branch) (ws : List Branch) (taken : List ℕ)
    → IsWalk links roots limit old shown (w ∷ ws) → Takes limit old new w.depth w.node taken
    → IsWalk links roots limit new (shown ++ shown_branch old ws w.depth w.node ∷ []) (map (branch_at (w.depth + 1)) taken ++ ws)
step links roots limit old new shown w ws taken walk takes = record {
  right = all_right links limit [] shown shown w (not (begins_at w.depth ws)) (shown_at old w.node) taken ws refl walk.right right (ap not (sym (goes_on_new w.depth taken ws falls)));
  steps = steps_kept 0 shown w (not (begins_at w.depth ws)) (shown_at old w.node) taken ws walk.steps;
  falls = (w.depth + 1, falls_new w.depth (w.depth + 1) taken ws falls (omega arith));
  led = led_kept links roots limit shown w ws (not (begins_at w.depth ws)) (shown_at old w.node) taken (ends_shown links limit old new shown w.depth w.node taken walk.ends takes) walk.led;
  at_roots = roots_kept shown w (not (begins_at w.depth ws)) (shown_at old w.node) taken ws ∙ walk.at_roots;
  ends = ends_next links limit old new shown (shown_branch old ws w.depth w.node) taken walk.ends takes;
  again = again_next links limit old new shown (shown_branch old ws w.depth w.node) taken walk.ends walk.again takes;
}
  where
    falls : FallsFrom w.depth ws
    falls = walk.falls.1.1

    right : IsRight links limit shown (shown_branch old ws w.depth w.node) (map (branch_at (w.depth + 1)) taken ++ ws)
    right = record {
      children = children_new w.depth taken ws falls ∙ ends_shown links limit old new shown w.depth w.node taken walk.ends takes;
      is_again = walk.again w.node;
    }

-- the roots wait
roots_falls : (roots : List ℕ) → FallsFrom 0 (map (branch_at 0) roots)
roots_falls [] = tt
roots_falls (n ∷ ns) = (let h : 0 ≤ 0 = omega arith in h, roots_falls ns)

roots_steps : (t : ℕ) (roots : List ℕ) → StepsFrom t (map (branch_at 0) roots)
roots_steps t [] = tt
roots_steps t (n ∷ ns) = (let h : 0 ≤ t = omega arith in h, roots_steps 1 ns)

roots_there : (roots : List ℕ) → map (λ b. b.node) (filter (λ b. nat_eq b.depth 0) (map (branch_at 0) roots)) ≡ roots
roots_there [] = refl
roots_there (n ∷ ns) = ap (λ z. n ∷ z) (roots_there ns)

begin : (links : List (ℕ × ℕ)) (roots : List ℕ) (limit : Option ℕ) (nodes : List Node)
    → ((n : ℕ) → ends_at nodes n ≡ ends_of links n) → ((n : ℕ) → shown_at nodes n ≡ false) → IsWalk links roots limit nodes [] (map (branch_at 0) roots)
begin links roots limit nodes ends shown = record {
  right = tt;
  steps = roots_steps 0 roots;
  falls = (0, roots_falls roots);
  led = led_roots links roots limit roots (λ n c. c);
  at_roots = roots_there roots;
  ends = ends;
  again = shown;
}

-- a branch of those that are right
right_at : (links : List (ℕ × ℕ)) (limit : Option ℕ) (first before all : List Branch) (b : Branch) (after : List Branch) → first ++ before ≡ all
    → AreRight links limit first (before ++ b ∷ after) [] → IsRight links limit all b after × (b.is_last ≡ not (goes_on b.depth after))
right_at links limit first [] all b after e h =
    (subst (λ z. IsRight links limit z b after) (sym (append-nil first) ∙ e) (subst (λ z. IsRight links limit first b z) (append-nil after) h.0), h.1 ∙ ap (λ z. not (goes_on b.depth z)) (append-nil after))
right_at links limit first (x ∷ before) all b after e h = right_at links limit (first ++ x ∷ []) before all b after (append_assoc first (x ∷ []) before ∙ e) h.2

-- nothing waits
end : (links : List (ℕ × ℕ)) (roots : List ℕ) (limit : Option ℕ) (nodes : List Node) (shown : List Branch) → IsWalk links roots limit nodes shown [] → AreBranches links roots limit shown
end links roots limit nodes shown walk = record {
  are_trees = record {
    steps = subst (StepsFrom 0) (append-nil shown) walk.steps;
    is_last = λ before after b e. (right_at links limit [] before before b after refl (subst (λ z. AreRight links limit [] z []) e walk.right)).1;
  };
  led = All-from_recursion (IsLed links roots limit) shown (subst (AllByRecursion (IsLed links roots limit)) (append-nil shown) walk.led);
  at_roots = ap (λ z. map (λ b. b.node) (filter (λ b. nat_eq b.depth 0) z)) (sym (append-nil shown)) ∙ walk.at_roots;
  right = λ before after b e. (right_at links limit [] before before b after refl (subst (λ z. AreRight links limit [] z []) e walk.right)).0;
}

-- as many ends wait as aren't shown any more
takes_fewer : (limit : Option ℕ) (old new : List Node) (depth node : ℕ) (taken : List ℕ) → Takes limit old new depth node taken → total new + length taken ≡ total old
takes_fewer limit old new depth node taken takes = go (goes_below limit depth) refl
  where
    go : (t : Bool) → goes_below limit depth ≡ t → total new + length taken ≡ total old
    go true e = (takes.allowed e).fewer
    go false e = let none : length taken ≡ 0 = ap length (takes.refused e).0 in let same : total new ≡ total old = ap total (takes.refused e).1 in omega arith

waits_push : (popped : List Waiting) (next : Waiting) → waits_of (popped ++ next ∷ []) ≡ branch_at next.depth next.node ∷ waits_of popped
waits_push popped next = ap (map (λ w. branch_at w.depth w.node)) (reverse-append popped (next ∷ []))

length_waits : (waiting : List Waiting) → length (waits_of waiting) ≡ length waiting
length_waits waiting = length-map (reverse waiting) (λ w. branch_at w.depth w.node) ∙ length-reverse waiting

-- the ends below the next branch wait after it was shown
abbrev pub WaitsBelow : Option ℕ → List Node → List Node → Waiting → List Waiting → List Branch → Type 0
WaitsBelow limit old new next popped waits = (ends : List ℕ) × Takes limit old new next.depth next.node ends × (waits ≡ map (branch_at (next.depth + 1)) ends ++ waits_of popped)

-- the walk, when the roots wait
pub begun : (links : List (ℕ × ℕ)) (roots : List ℕ) (limit : Option ℕ) (nodes : List Node) (shown : List Branch) (none : List Waiting) (waits : List Branch)
    → ((n : ℕ) → ends_at nodes n ≡ ends_of links n) → ((n : ℕ) → shown_at nodes n ≡ false) → shown ≡ [] → none ≡ [] → waits ≡ map (branch_at 0) roots ++ waits_of none
    → IsWalk links roots limit nodes shown waits
begun links roots limit nodes shown none waits ends marks is_shown is_none is =
    subst (λ z. IsWalk links roots limit nodes z waits) (sym is_shown)
    (subst (λ z. IsWalk links roots limit nodes [] z) (sym (is ∙ ap (λ z. map (branch_at 0) roots ++ waits_of z) is_none ∙ append-nil (map (branch_at 0) roots))) (begin links roots limit nodes ends marks))

-- the walk after the next branch was shown
pub stepped : (links : List (ℕ × ℕ)) (roots : List ℕ) (limit : Option ℕ) (old new : List Node) (shown now : List Branch) (waiting popped : List Waiting) (next : Waiting) (b : Branch) (waits : List Branch)
    → IsWalk links roots limit old shown (waits_of waiting) → waiting ≡ popped ++ next ∷ [] → b ≡ shown_branch old (waits_of popped) next.depth next.node → WaitsBelow limit old new next popped waits
    → now ≡ shown ++ b ∷ [] → IsWalk links roots limit new now waits
stepped links roots limit old new shown now waiting popped next b waits walk is is_branch below is_now =
    subst (λ z. IsWalk links roots limit new z waits) (sym (is_now ∙ ap (λ z. shown ++ z ∷ []) is_branch))
    (subst (λ z. IsWalk links roots limit new (shown ++ shown_branch old (waits_of popped) next.depth next.node ∷ []) z) (sym below.2)
    (step links roots limit old new shown (branch_at next.depth next.node) (waits_of popped) below.0
    (subst (λ z. IsWalk links roots limit old shown z) (ap waits_of is ∙ waits_push popped next) walk) below.1))

-- fewer branches are to be shown
pub fewer : (limit : Option ℕ) (old new : List Node) (waiting popped after : List Waiting) (next : Waiting) → waiting ≡ popped ++ next ∷ [] → WaitsBelow limit old new next popped (waits_of after)
    → total new + length after < total old + length waiting
fewer limit old new waiting popped after next is below =
    let taken : total new + length below.0 ≡ total old = takes_fewer limit old new next.depth next.node below.0 below.1 in
    let all : length waiting ≡ length popped + 1 = ap length is ∙ length_push popped next in
    let now : length after ≡ length below.0 + length popped =
    sym (length_waits after) ∙ ap length below.2 ∙ length-append (map (branch_at (next.depth + 1)) below.0) (waits_of popped)
    ∙ ap (λ n. n + length (waits_of popped)) (length-map below.0 (branch_at (next.depth + 1))) ∙ ap (λ n. length below.0 + n) (length_waits popped) in
    omega arith

-- the walk ends when nothing waits
pub ended : (links : List (ℕ × ℕ)) (roots : List ℕ) (limit : Option ℕ) (nodes : List Node) (shown : List Branch) (waiting : List Waiting) → IsWalk links roots limit nodes shown (waits_of waiting)
    → waiting ≡ [] → AreBranches links roots limit shown
ended links roots limit nodes shown waiting walk none = end links roots limit nodes shown (subst (λ z. IsWalk links roots limit nodes shown (waits_of z)) none walk)
