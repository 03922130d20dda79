-- The nodes of a package are a range of numbers, and the packages of a set follow from the ranges.
use Rattle.std.proofs.Common.{◌≡◌, ◌<◌, ◌≤◌, ℕ, zero, suc, ◌+◌, ◌-◌, ◌++◌, ◌⊎◌, inl, inr, ⊎_elim, Bool, true, false, cond, ◌||◌, List, [], ◌∷◌, length, map, filter, take, Some, refl, ap, sym, ◌∙◌, subst, arith, length-append}
use Rattle.std.specs.Prelude.{◌↔◌, ◌==◌, slice_get, flat_map}
use Rattle.std.specs.Option.{option_map}
use Rattle.std.specs.List.{enumerate_from, list_any, range_with_len}
use Rattle.std.proofs.lemmas.Bool.{eqb-true, eq-eqb}
use Rattle.std.proofs.lemmas.List.{map-append, length-map}
use Rattle.std.proofs.lemmas.Option.{slice_get_within, slice_get-map}
use Rattle.std.proofs.Math.Seq.{take-length}
use Rattle.digraphs.specs.Bits.{has}
use Rattle.guppy_packages.specs.Tables.{Tables}
use Rattle.feature_core.specs.Nodes.{labels_of, spread, node_packages, nodes, first_node, first_nodes}
use Rattle.feature_graph.specs.Packages.{has_member_of, member_packages_from}
use Rattle.feature_graph.proofs.BuiltLemmas.{length-renamed, node_count}
use Rattle.feature_graph.proofs.WorkspaceLemmas.{picked}

got_left : {X : Type 0} (xs ys : List X) (n : ℕ) → n < length xs → slice_get (xs ++ ys) n ≡ slice_get xs n
got_left [] ys n h = absurd (omega arith)
got_left (x ∷ xs) ys zero h = refl
got_left (x ∷ xs) ys (suc n) h = got_left xs ys n (omega arith)

got_right : {X : Type 0} (xs ys : List X) (n m : ℕ) → n ≡ length xs + m → slice_get (xs ++ ys) n ≡ slice_get ys m
got_right [] ys n m h = ap (slice_get ys) (omega (arith, h))
got_right (x ∷ xs) ys zero m h = absurd (omega arith)
got_right (x ∷ xs) ys (suc n) m h = got_right xs ys n m (omega arith)

below_or : (n bound : ℕ) → (n < bound) ⊎ ((m : ℕ) × (n ≡ bound + m))
below_or n zero = inr (n, omega arith)
below_or zero (suc bound) = inl (omega arith)
below_or (suc n) (suc bound) = ⊎_elim (λ h. inl (omega arith)) (λ h. let is = h.1 in inr (h.0, omega arith)) (below_or n bound)

module _ {A B : Type 0} (f : A → List B) where
  abbrev numbers : ℕ → List A → List ℕ
  numbers q xs = map (λ z. z.0) (spread f q xs)

  abbrev row : ℕ → List B → List ℕ
  row q ys = map {A = ℕ × B} (λ z. z.0) (map (λ y. (q, y)) ys)

  length-row : (q : ℕ) (ys : List B) → length (row q ys) ≡ length ys
  length-row q ys = length-map (map {B = ℕ × B} (λ y. (q, y)) ys) (λ z. z.0) ∙ length-map ys (λ y. (q, y))

  in_row : (q : ℕ) (ys : List B) (n : ℕ) → n < length ys → slice_get (row q ys) n ≡ Some q
  in_row q [] n h = absurd (omega arith)
  in_row q (y ∷ ys) zero h = refl
  in_row q (y ∷ ys) (suc n) h = in_row q ys n (omega arith)

  numbers-cons : (q : ℕ) (x : A) (xs : List A) → numbers q (x ∷ xs) ≡ row q (f x) ++ numbers (q + 1) xs
  numbers-cons q x xs = map-append {A = ℕ × B} (λ z. z.0) (map (λ y. (q, y)) (f x)) (spread f (q + 1) xs)

  at_first : (q : ℕ) (x : A) (xs : List A) (n : ℕ) → n < length (f x) → slice_get (numbers q (x ∷ xs)) n ≡ Some q
  at_first q x xs n h =
      let long = length-row q (f x) in
      ap (λ l. slice_get l n) (numbers-cons q x xs) ∙ got_left (row q (f x)) (numbers (q + 1) xs) n (omega (arith, long)) ∙ in_row q (f x) n h

  at_later : (q : ℕ) (x : A) (xs : List A) (n m : ℕ) → n ≡ length (f x) + m → slice_get (numbers q (x ∷ xs)) n ≡ slice_get (numbers (q + 1) xs) m
  at_later q x xs n m h =
      let long = length-row q (f x) in
      ap (λ l. slice_get l n) (numbers-cons q x xs) ∙ got_right (row q (f x)) (numbers (q + 1) xs) n m (omega (arith, long, h))

  -- each number is at least the first
  numbers_above : (q : ℕ) (xs : List A) (n p : ℕ) → slice_get (numbers q xs) n ≡ Some p → q ≤ p
  numbers_above q [] n p h = cc
  numbers_above q (x ∷ xs) n p h = ⊎_elim
      (λ below. let e = sym (at_first q x xs n below) ∙ h in let same : q ≡ p = cc in omega arith)
      (λ later. let deeper = numbers_above (q + 1) xs later.0 p (sym (at_later q x xs n later.0 later.1) ∙ h) in omega arith)
      (below_or n (length (f x)))

  pub range_in : (q : ℕ) (xs : List A) (p n : ℕ) → p < length xs → length (flat_map f (take p xs)) ≤ n → n < length (flat_map f (take (suc p) xs)) → slice_get (numbers q xs) n ≡ Some (q + p)
  range_in q [] p n within from to = absurd (omega arith)
  range_in q (x ∷ xs) zero n within from to =
      let long = length-append (f x) [] in
      let here : q ≡ q + 0 = omega arith in
      at_first q x xs n (omega (arith, to, long)) ∙ ap Some here
  range_in q (x ∷ xs) (suc p) n within from to =
      let front = length-append (f x) (flat_map f (take p xs)) in
      let whole = length-append (f x) (flat_map f (take (suc p) xs)) in
      let m : ℕ = n - length (f x) in
      let rest = range_in (q + 1) xs p m (omega arith) (omega (arith, from, front)) (omega (arith, to, whole, from, front)) in
      let here : q + 1 + p ≡ q + suc p = omega arith in
      at_later q x xs n m (omega (arith, from, front)) ∙ rest ∙ ap Some here

  pub range_out : (q : ℕ) (xs : List A) (p n : ℕ) → p < length xs → slice_get (numbers q xs) n ≡ Some (q + p) → (length (flat_map f (take p xs)) ≤ n) × (n < length (flat_map f (take (suc p) xs)))
  range_out q [] p n within at = absurd (omega arith)
  range_out q (x ∷ xs) zero n within at = ⊎_elim
      (λ below. let long = length-append (f x) [] in (omega arith, omega (arith, below, long)))
      (λ later. let above = numbers_above (q + 1) xs later.0 (q + 0) (sym (at_later q x xs n later.0 later.1) ∙ at) in absurd (omega arith))
      (below_or n (length (f x)))
  range_out q (x ∷ xs) (suc p) n within at = ⊎_elim
      (λ below. let e = sym (at_first q x xs n below) ∙ at in let same : q ≡ q + suc p = cc in absurd (omega arith))
      (λ later.
      let here : q + suc p ≡ q + 1 + p = omega arith in
      let rest = range_out (q + 1) xs p later.0 (omega arith) (sym (at_later q x xs n later.0 later.1) ∙ at ∙ ap Some here) in
      let front = length-append (f x) (flat_map f (take p xs)) in
      let whole = length-append (f x) (flat_map f (take (suc p) xs)) in
      let is = later.1 in
      (omega (arith, rest.0, front, is), omega (arith, rest.1, whole, is)))
      (below_or n (length (f x)))

-- the nodes of package `p` are those from its first node up to the first node of the next package
pub node_of : (t : Tables) (p n : ℕ) → p < length t.packages → (slice_get (node_packages t) n ≡ Some p) ↔ ((first_node t p ≤ n) × (n < first_node t (p + 1)))
node_of t p n within =
    let next : suc p ≡ p + 1 = omega arith in
    let zero_more : 0 + p ≡ p = omega arith in (
      (λ h. let r = range_out labels_of 0 t.packages p n within (h ∙ ap Some (sym zero_more)) in (r.0, subst (λ k. n < first_node t k) next r.1)),
      (λ h. range_in labels_of 0 t.packages p n within h.0 (subst (λ k. n < first_node t k) (sym next) h.1) ∙ ap Some zero_more),
    )

got_range : (a n k : ℕ) → k < n → slice_get (range_with_len a n) k ≡ Some (a + k)
got_range a zero k h = absurd (omega arith)
got_range a (suc n) zero h = let here : a ≡ a + 0 = omega arith in ap Some here
got_range a (suc n) (suc k) h = let here : a + 1 + k ≡ a + suc k = omega arith in got_range (a + 1) n k (omega arith) ∙ ap Some here

length-range : (a n : ℕ) → length (range_with_len a n) ≡ n
length-range a zero = refl
length-range a (suc n) = ap suc (length-range (a + 1) n)

pub length-first_nodes : (t : Tables) → length (first_nodes t) ≡ length t.packages
length-first_nodes t = length-map (range_with_len 0 (length t.packages)) (first_node t) ∙ length-range 0 (length t.packages)

-- the list of first nodes has the first node of each package
pub first_node_at : (t : Tables) (p n : ℕ) → p < length t.packages → slice_get (first_nodes t) p ≡ Some n → n ≡ first_node t p
first_node_at t p n within h =
    let all = slice_get-map (first_node t) (range_with_len 0 (length t.packages)) p ∙ ap (option_map (first_node t)) (got_range 0 (length t.packages) p within) in
    let same : 0 + p ≡ p = omega arith in
    let e : Some n ≡ Some (first_node t (0 + p)) = sym h ∙ all in
    let is : n ≡ first_node t (0 + p) = cc in
    is ∙ ap (first_node t) same

-- the last package has the last nodes
pub first_node_past : (t : Tables) (p : ℕ) → p ≡ length t.packages → length (nodes t) ≡ first_node t p
first_node_past t p h = length-renamed labels_of (λ q l. (q.id, l)) t.packages ∙ sym (ap (λ l. length (flat_map labels_of l)) (ap (λ k. take k t.packages) h ∙ take-length t.packages))

bool_cases : (b : Bool) → (b ≡ true) ⊎ (b ≡ false)
bool_cases true = inl refl
bool_cases false = inr refl

or_split : (b c : Bool) → (b || c) ≡ true → (b ≡ true) ⊎ (c ≡ true)
or_split true c h = inl refl
or_split false c h = inr h

or_right : (b c : Bool) → c ≡ true → (b || c) ≡ true
or_right true c h = refl
or_right false c h = h

-- an element that passes the test, at an index that passes
record PassesAt {X : Type 0} (passes : ℕ → Bool) (test : X → Bool) (q : ℕ) (xs : List X) : Type 0 where
  place : ℕ
  element : X
  at : slice_get xs place ≡ Some element
  picks : passes (q + place) ≡ true
  holds : test element ≡ true

any_picked : {X : Type 0} (passes : ℕ → Bool) (test : X → Bool) (q : ℕ) (xs : List X) → list_any test (picked passes q xs) ≡ true → PassesAt passes test q xs
any_picked passes test q [] h = cc
any_picked {X} passes test q (y ∷ xs) h =
    let later = filter (λ p. passes p.0) (enumerate_from (q + 1) xs) in
    let deeper : list_any test (picked passes (q + 1) xs) ≡ true → PassesAt passes test q (y ∷ xs) = λ e.
    let r = any_picked passes test (q + 1) xs e in
    let here : q + 1 + r.place ≡ q + suc r.place = omega arith in
    record { place = suc r.place; element = r.element; at = r.at; picks = subst (λ k. passes k ≡ true) here r.picks; holds = r.holds } in
    ⊎_elim
    (λ yes.
    let split : list_any test (y ∷ picked passes (q + 1) xs) ≡ true = subst (λ b. list_any test (map {A = ℕ × X} (λ p. p.1) (cond b ((q, y) ∷ later) later)) ≡ true) yes h in
    let here : q ≡ q + 0 = omega arith in
    ⊎_elim
    (λ first. record { place = 0; element = y; at = refl; picks = subst (λ k. passes k ≡ true) here yes; holds = first })
    deeper
    (or_split (test y) (list_any test (picked passes (q + 1) xs)) split))
    (λ no. deeper (subst (λ b. list_any test (map {A = ℕ × X} (λ p. p.1) (cond b ((q, y) ∷ later) later)) ≡ true) no h))
    (bool_cases (passes q))

picked_any : {X : Type 0} (passes : ℕ → Bool) (test : X → Bool) (q : ℕ) (xs : List X) (n : ℕ) (x : X) → slice_get xs n ≡ Some x → passes (q + n) ≡ true → test x ≡ true → list_any test (picked passes q xs) ≡ true
picked_any passes test q [] n x at h holds = cc
picked_any {X} passes test q (y ∷ xs) zero x at h holds =
    let same : y ≡ x = cc in
    let here : q + 0 ≡ q = omega arith in
    let later = filter (λ p. passes p.0) (enumerate_from (q + 1) xs) in
    let first : test y ≡ true = subst (λ z. test z ≡ true) (sym same) holds in
    let both : list_any test (y ∷ picked passes (q + 1) xs) ≡ true = subst (λ b. (b || list_any test (picked passes (q + 1) xs)) ≡ true) (sym first) refl in
    subst (λ b. list_any test (map {A = ℕ × X} (λ p. p.1) (cond b ((q, y) ∷ later) later)) ≡ true) (sym (subst (λ k. passes k ≡ true) here h)) both
picked_any {X} passes test q (y ∷ xs) (suc n) x at h holds =
    let here : q + suc n ≡ q + 1 + n = omega arith in
    let rest = picked_any passes test (q + 1) xs n x at (subst (λ k. passes k ≡ true) here h) holds in
    let later = filter (λ p. passes p.0) (enumerate_from (q + 1) xs) in
    elim (passes q) as (λ b. list_any test (map {A = ℕ × X} (λ p. p.1) (cond b ((q, y) ∷ later) later)) ≡ true) [
      | true ↦ or_right (test y) (list_any test (picked passes (q + 1) xs)) rest
      | false ↦ rest
    ]

module _ (t : Tables) (members : List Bool) where
  -- a member in the range of the package is a member of the package
  pub found_member : (p n : ℕ) → p < length t.packages → first_node t p ≤ n → n < first_node t (p + 1) → has members n ≡ true → has_member_of t members p ≡ true
  found_member p n within from to is =
      let here : 0 + n ≡ n = omega arith in
      picked_any (has members) (λ q. q == p) 0 (node_packages t) n p ((node_of t p n within).1 (from, to)) (subst (λ k. has members k ≡ true) (sym here) is) (eq-eqb p p refl)

  -- if no node of the package is a member, the package has no member
  pub no_member : (p : ℕ) → p < length t.packages → ((n : ℕ) → first_node t p ≤ n → n < first_node t (p + 1) → has members n ≡ false) → has_member_of t members p ≡ false
  no_member p within none = ⊎_elim
      (λ yes.
      let r = any_picked (has members) (λ q. q == p) 0 (node_packages t) yes in
      let same : r.element ≡ p = eqb-true r.element p r.holds in
      let range = (node_of t p r.place within).0 (r.at ∙ ap Some same) in
      let here : 0 + r.place ≡ r.place = omega arith in
      let is : has members r.place ≡ true = subst (λ k. has members k ≡ true) here r.picks in
      let not : has members r.place ≡ false = none r.place range.0 range.1 in
      cc)
      (λ no. no)
      (bool_cases (has_member_of t members p))

  from_here : (n : ℕ) → n < length t.packages → member_packages_from t members n ≡ cond (has_member_of t members n) (n ∷ member_packages_from t members (n + 1)) (member_packages_from t members (n + 1))
  from_here n h =
      let one_more : length t.packages - n ≡ suc (length t.packages - (n + 1)) = omega arith in
      ap (λ k. filter (λ p. has_member_of t members p) (range_with_len n k)) one_more

  -- a package with a member is the first from its number on
  pub from_found : (n : ℕ) → n < length t.packages → has_member_of t members n ≡ true → member_packages_from t members n ≡ n ∷ member_packages_from t members (n + 1)
  from_found n h is = from_here n h ∙ ap (λ b. cond b (n ∷ member_packages_from t members (n + 1)) (member_packages_from t members (n + 1))) is

  -- a package without a member is skipped
  pub from_passed : (n : ℕ) → n < length t.packages → has_member_of t members n ≡ false → member_packages_from t members n ≡ member_packages_from t members (n + 1)
  from_passed n h is = from_here n h ∙ ap (λ b. cond b (n ∷ member_packages_from t members (n + 1)) (member_packages_from t members (n + 1))) is

  -- after the last package none remains
  pub from_past : (n : ℕ) → length t.packages ≤ n → member_packages_from t members n ≡ []
  from_past n h =
      let nothing : length t.packages - n ≡ 0 = omega arith in
      ap (λ k. filter (λ p. has_member_of t members p) (range_with_len n k)) nothing

-- a node of a package is a node of the graph
pub range_within : (t : Tables) (p n : ℕ) → p < length t.packages → first_node t p ≤ n → n < first_node t (p + 1) → n < length (nodes t)
range_within t p n within from to =
    let below = slice_get_within (node_packages t) n p ((node_of t p n within).1 (from, to)) in
    omega (arith, below, node_count t)

-- no node up to this one is a member
pub no_later : (t : Tables) (members : List Bool) (p n : ℕ) → ((k : ℕ) → first_node t p ≤ k → k < n → has members k ≡ false) → has members n ≡ false → (k : ℕ) → first_node t p ≤ k → k < n + 1 → has members k ≡ false
no_later t members p n before now k from to = ⊎_elim
    (λ below. before k from below)
    (λ above. let same : n ≡ k = omega (arith, above.1, to) in subst (λ z. has members z ≡ false) same now)
    (below_or k n)
