-- The calls of a filter, node by node.
use Rattle.std.proofs.Common.{◌≡◌, ◌<◌, ℕ, zero, suc, ◌+◌, ◌++◌, ◌⊎◌, inl, inr, ⊎_elim, Bool, true, false, cond, List, [], ◌∷◌, length, map, filter, take, Some, refl, ap, sym, ◌∙◌, subst, arith, append-nil, replicate}
use Rattle.std.specs.Prelude.{◌↔◌, IsTrue, slice_get}
use Rattle.std.specs.List.{enumerate_from}
use Rattle.std.proofs.lemmas.Fn.{FoldsTo-push}
use Rattle.std.proofs.lemmas.List.{map-append, length-replicate}
use Rattle.std.proofs.Math.Seq.{take-length}
use Rattle.std.specs.Option.{option_map}
use Rattle.std.proofs.lemmas.Option.{get_or_from_slice_get, slice_get-map}
use Rattle.digraphs.specs.Bits.{has}
use Rattle.guppy_packages.specs.Rows.{Text}
use Rattle.guppy_packages.specs.Tables.{Tables, PackageTable}
use Rattle.feature_labels.specs.Names.{LabelName}
use Rattle.feature_core.specs.Built.{NodeNamed}
use Rattle.feature_core.specs.Nodes.{nodes, node_packages, node_places, spread, labels_of}
use Rattle.feature_graph.specs.Names.{IsAmong}
use Rattle.feature_graph.specs.Filters.{Run, Ran, MayAskEach, AsksNode, SelectsByFilter, accepted, workspace_marks, workspace_names}
use Rattle.feature_graph.specs.Values.{Graph}

-- the elements whose indices pass, with indices from `q` on
abbrev pub picked : {X : Type 0} → (ℕ → Bool) → ℕ → List X → List X
picked passes q xs = map (λ p. p.1) (filter (λ p. passes p.0) (enumerate_from q xs))

-- one more element, if its index passes
pub picked-more : {X : Type 0} (passes : ℕ → Bool) (q : ℕ) (xs : List X) (n : ℕ) (x : X) → slice_get xs n ≡ Some x
    → picked passes q (take (suc n) xs) ≡ picked passes q (take n xs) ++ cond (passes (q + n)) (x ∷ []) []
picked-more passes q [] n x at = cc
picked-more {X} passes q (y ∷ xs) zero x at =
    let same : y ≡ x = cc in
    elim (passes q) as (λ b. map {A = ℕ × X} (λ p. p.1) (cond b ((q, y) ∷ []) []) ≡ cond b (x ∷ []) []) [ true ↦ ap (λ z. z ∷ []) same | false ↦ refl ]
    ∙ ap (λ k. cond (passes k) (x ∷ []) []) (omega arith)
picked-more {X} passes q (y ∷ xs) (suc n) x at =
    let rest = picked-more passes (q + 1) xs n x at in
    let more = filter (λ p. passes p.0) (enumerate_from (q + 1) (take (suc n) xs)) in
    let less = filter (λ p. passes p.0) (enumerate_from (q + 1) (take n xs)) in
    elim (passes q) as (λ b. map {A = ℕ × X} (λ p. p.1) (cond b ((q, y) ∷ more) more) ≡ map {A = ℕ × X} (λ p. p.1) (cond b ((q, y) ∷ less) less) ++ cond (passes (q + 1 + n)) (x ∷ []) []) [
      | true ↦ ap (λ l. y ∷ l) rest
      | false ↦ rest
    ]
    ∙ ap (λ k. picked passes q (take (suc n) (y ∷ xs)) ++ cond (passes k) (x ∷ []) []) (omega arith)

-- an element whose index passes is picked, right after the picked ones before it
picked_has : {X : Type 0} (passes : ℕ → Bool) (q : ℕ) (xs : List X) (n : ℕ) (x : X) → slice_get xs n ≡ Some x → passes (q + n) ≡ true → (later : List X) × (picked passes q (take n xs) ++ x ∷ later ≡ picked passes q xs)
picked_has passes q [] n x at h = cc
picked_has {X} passes q (y ∷ xs) zero x at h =
    let same : x ≡ y = cc in
    let here : passes q ≡ true = subst (λ k. passes k ≡ true) (omega arith) h in
    let later = filter (λ p. passes p.0) (enumerate_from (q + 1) xs) in
    (map (λ p. p.1) later, ap (λ z. z ∷ map {A = ℕ × X} (λ p. p.1) later) same ∙ ap (λ b. map {A = ℕ × X} (λ p. p.1) (cond b ((q, y) ∷ later) later)) (sym here))
picked_has {X} passes q (y ∷ xs) (suc n) x at h =
    let rest = picked_has passes (q + 1) xs n x at (subst (λ k. passes k ≡ true) (omega arith) h) in
    let all = filter (λ p. passes p.0) (enumerate_from (q + 1) xs) in
    let some = filter (λ p. passes p.0) (enumerate_from (q + 1) (take n xs)) in (
      rest.0,
      elim (passes q) as (λ b. map {A = ℕ × X} (λ p. p.1) (cond b ((q, y) ∷ some) some) ++ x ∷ rest.0 ≡ map {A = ℕ × X} (λ p. p.1) (cond b ((q, y) ∷ all) all)) [
        | true ↦ ap (λ l. y ∷ l) rest.1
        | false ↦ rest.1
      ],
    )

-- an element of the first list keeps its index in the concatenation
got_before : {X : Type 0} (xs ys : List X) (k : ℕ) (x : X) → slice_get xs k ≡ Some x → slice_get (xs ++ ys) k ≡ Some x
got_before [] ys k x h = cc
got_before (y ∷ xs) ys zero x h = h
got_before (y ∷ xs) ys (suc k) x h = got_before xs ys k x h

got_last : {X : Type 0} (xs : List X) (x : X) → slice_get (xs ++ x ∷ []) (length xs) ≡ Some x
got_last [] x = refl
got_last (y ∷ xs) x = got_last xs x

pub got_pushed : {X : Type 0} (xs : List X) (x : X) (k : ℕ) (y : X) → slice_get (xs ++ x ∷ []) k ≡ Some y → (slice_get xs k ≡ Some y) ⊎ (x ≡ y)
got_pushed [] x zero y h = inr (cc)
got_pushed [] x (suc k) y h = cc
got_pushed (z ∷ xs) x zero y h = inl h
got_pushed (z ∷ xs) x (suc k) y h = got_pushed xs x k y h

-- an index below the length has an element
got_at : {X : Type 0} (xs : List X) (n : ℕ) → n < length xs → (x : X) × (slice_get xs n ≡ Some x)
got_at [] n h = absurd (omega arith)
got_at (x ∷ xs) zero h = (x, refl)
got_at (x ∷ xs) (suc n) h = got_at xs n (omega arith)

-- one more accepted name, or none
accepted-push : (run : Run) (name : Text × LabelName) (answer : Bool) → accepted (run ++ (name, answer) ∷ []) ≡ accepted run ++ cond answer (name ∷ []) []
accepted-push [] name answer = elim answer as (λ b. map {A = (Text × LabelName) × Bool} (λ x. x.0) (cond b ((name, answer) ∷ []) []) ≡ cond b (name ∷ []) []) [ true ↦ refl | false ↦ refl ]
accepted-push (x ∷ run) name answer =
    let rest = accepted-push run name answer in
    let more = filter (λ (y : (Text × LabelName) × Bool). y.1) (run ++ (name, answer) ∷ []) in
    let less = filter (λ (y : (Text × LabelName) × Bool). y.1) run in
    elim (x.1) as (λ b. map {A = (Text × LabelName) × Bool} (λ y. y.0) (cond b (x ∷ more) more) ≡ map {A = (Text × LabelName) × Bool} (λ y. y.0) (cond b (x ∷ less) less) ++ cond answer (name ∷ []) []) [
      | true ↦ ap (λ l. x.0 ∷ l) rest
      | false ↦ rest
    ]

module _ (t : Tables) where
  -- the nodes of one more name
  among_pushed : (names : List (Text × LabelName)) (name : Text × LabelName) (n : ℕ) → IsAmong t (names ++ name ∷ []) n ↔ (IsAmong t names n ⊎ NodeNamed t n name)
  among_pushed names name n = (
    (λ h. ⊎_elim
        (λ old. inl (h.0, h.1, old, h.3))
        (λ same. inr (subst (NodeNamed t n) (sym same) h.3))
        (got_pushed names name h.0 h.1 h.2)),
    (λ h. ⊎_elim
        (λ old. (old.0, old.1, got_before names (name ∷ []) old.0 old.1 old.2, old.3))
        (λ is. (length names, name, got_last names name, is))
        h),
  )

  -- the nodes of one more name, if it was accepted
  among_answered : (names : List (Text × LabelName)) (name : Text × LabelName) (answer : Bool) (n : ℕ)
      → IsAmong t (names ++ cond answer (name ∷ []) []) n ↔ (IsAmong t names n ⊎ (IsTrue answer × NodeNamed t n name))
  among_answered names name true n =
      let both = among_pushed names name n in (
        (λ h. ⊎_elim (λ old. inl old) (λ is. inr (refl, is)) (both.0 h)),
        (λ h. both.1 (⊎_elim (λ old. inl old) (λ is. inr is.1) h)),
      )
  among_answered names name false n =
      let same : names ++ [] ≡ names = append-nil names in (
        (λ h. inl (subst (λ l. IsAmong t l n) same h)),
        (λ h. ⊎_elim (λ old. subst (λ l. IsAmong t l n) (sym same) old) (λ is. let clash : false ≡ true = is.0 in cc) h),
      )

module _ {S : Type 0} (gives : S → Graph → Text × LabelName → Bool → S → Type 0) (g : Graph) (s : S) where
  -- the filter was called for the workspace's nodes below this one
  pub record AskedBelow (node : ℕ) (t : S) (members : List Bool) : Type 0 where
    pub run : Run
    pub steps : Ran gives g s run t
    pub each : map (λ x. x.0) run ≡ picked (has (workspace_marks g.tables)) 0 (take node (nodes g.tables))
    pub size : length members ≡ length (nodes g.tables)
    pub exact : (n : ℕ) → IsTrue (has members n) ↔ IsAmong g.tables (accepted run) n

  none_marked : (size n : ℕ) → IsTrue (has (replicate size false) n) → ⊥
  none_marked zero n h = cc
  none_marked (suc size) zero h = cc
  none_marked (suc size) (suc n) h = none_marked size n h

  pub asked_none : (count : ℕ) (members : List Bool) → count ≡ length (nodes g.tables) → members ≡ replicate count false → AskedBelow 0 s members
  asked_none count members long is = record {
    run = [];
    steps = refl;
    each = refl;
    size = ap length is ∙ length-replicate count false ∙ long;
    exact = λ n. (
      (λ h. absurd (none_marked count n (subst (λ m. IsTrue (has m n)) is h))),
      (λ h. let e = h.2 in cc),
    );
  }

  mark_is : (node : ℕ) (b : Bool) → slice_get (workspace_marks g.tables) node ≡ Some b → has (workspace_marks g.tables) node ≡ b
  mark_is node b h = get_or_from_slice_get (workspace_marks g.tables) node b false h

  mark_next : (node : ℕ) (b : Bool) → slice_get (workspace_marks g.tables) node ≡ Some b → has (workspace_marks g.tables) (0 + node) ≡ b
  mark_next node b h = let same : 0 + node ≡ node = omega arith in subst (λ k. has (workspace_marks g.tables) k ≡ b) (sym same) (mark_is node b h)

  picked_next : (node : ℕ) (name : Text × LabelName) (b : Bool) → NodeNamed g.tables node name → slice_get (workspace_marks g.tables) node ≡ Some b
      → picked (has (workspace_marks g.tables)) 0 (take (node + 1) (nodes g.tables)) ≡ picked (has (workspace_marks g.tables)) 0 (take node (nodes g.tables)) ++ cond b (name ∷ []) []
  picked_next node name b named mark =
      let one_more : node + 1 ≡ suc node = omega arith in
      ap (λ k. picked (has (workspace_marks g.tables)) 0 (take k (nodes g.tables))) one_more
      ∙ picked-more (has (workspace_marks g.tables)) 0 (nodes g.tables) node name named
      ∙ ap (λ z. picked (has (workspace_marks g.tables)) 0 (take node (nodes g.tables)) ++ cond z (name ∷ []) []) (mark_next node b mark)

  -- a node outside the workspace is skipped
  pub passed_over : (node : ℕ) (t : S) (members : List Bool) → node < length (nodes g.tables) → slice_get (workspace_marks g.tables) node ≡ Some false → AskedBelow node t members → AskedBelow (node + 1) t members
  passed_over node t members below mark h =
      let name = got_at (nodes g.tables) node below in record {
        run = h.run;
        steps = h.steps;
        each = h.each ∙ sym (append-nil _) ∙ sym (picked_next node name.0 false name.1 mark);
        size = h.size;
        exact = h.exact;
      }

  -- the filter was called for a node of the workspace
  pub asked_one : (node : ℕ) (t u : S) (members new : List Bool) → slice_get (workspace_marks g.tables) node ≡ Some true → AsksNode gives g node t u members new → AskedBelow node t members → AskedBelow (node + 1) u new
  asked_one node t u members new mark asks h =
      let push = accepted-push h.run asks.name asks.answer in record {
        run = h.run ++ (asks.name, asks.answer) ∷ [];
        steps = FoldsTo-push _ s h.run t (asks.name, asks.answer) u h.steps asks.step;
        each = map-append (λ x. x.0) h.run ((asks.name, asks.answer) ∷ []) ∙ ap (λ l. l ++ asks.name ∷ []) h.each ∙ sym (picked_next node asks.name true asks.named mark);
        size = asks.size ∙ h.size;
        exact = λ n.
            let new_is = asks.adds n in
            let names_are = among_answered g.tables (accepted h.run) asks.name asks.answer n in (
              (λ m. subst (λ l. IsAmong g.tables l n) (sym push) (names_are.1 (⊎_elim (λ old. inl ((h.exact n).0 old)) (λ is. inr is) (new_is.0 m)))),
              (λ a. new_is.1 (⊎_elim (λ old. inl ((h.exact n).1 old)) (λ is. inr is) (names_are.0 (subst (λ l. IsAmong g.tables l n) push a)))),
            );
      }

  pub asked_all : (node : ℕ) (t : S) (members : List Bool) → node ≡ length (nodes g.tables) → AskedBelow node t members → SelectsByFilter gives g s t members
  asked_all node t members whole h = record {
    run = h.run;
    steps = h.steps;
    each = h.each ∙ ap (picked (has (workspace_marks g.tables)) 0) (ap (λ k. take k (nodes g.tables)) whole ∙ take-length (nodes g.tables));
    exact = record { size = h.size; exact = h.exact };
  }

  -- the filter may be called for the name of a workspace node
  pub may_ask_node : (can : S → Graph → Text × LabelName → Type 0) (node : ℕ) (t : S) (members : List Bool) (name : Text × LabelName)
      → MayAskEach can gives g (workspace_names g.tables) s → slice_get (workspace_marks g.tables) node ≡ Some true → AskedBelow node t members → NodeNamed g.tables node name → can t g name
  may_ask_node can node t members name may mark h named =
      let passes = has (workspace_marks g.tables) in
      let passing : passes (0 + node) ≡ true = mark_next node true mark in
      let place = picked_has passes 0 (nodes g.tables) node name named passing in
      may h.run t name place.0 h.steps (ap (λ l. l ++ name ∷ place.0) h.each ∙ place.1)

-- an element of a concatenation is in one of its two lists
got_apart : {X : Type 0} (xs ys : List X) (n : ℕ) (x : X) → slice_get (xs ++ ys) n ≡ Some x → (slice_get xs n ≡ Some x) ⊎ ((m : ℕ) × (slice_get ys m ≡ Some x))
got_apart [] ys n x h = inr (n, h)
got_apart (y ∷ xs) ys zero x h = inl h
got_apart (y ∷ xs) ys (suc n) x h = got_apart xs ys n x h

got_made : {X Y : Type 0} (f : X → Y) (xs : List X) (n : ℕ) (y : Y) → slice_get (map f xs) n ≡ Some y → (x : X) × (slice_get xs n ≡ Some x) × (f x ≡ y)
got_made f [] n y h = cc
got_made f (x ∷ xs) zero y h = (x, refl, cc)
got_made f (x ∷ xs) (suc n) y h = got_made f xs n y h

spread_below : {A B : Type 0} (f : A → List B) (q : ℕ) (xs : List A) (n : ℕ) (z : ℕ × B) → slice_get (spread f q xs) n ≡ Some z → z.0 < q + length xs
spread_below f q [] n z h = cc
spread_below f q (x ∷ xs) n z h = ⊎_elim
    (λ here. let made = got_made (λ y. (q, y)) (f x) n z here in let same : q ≡ z.0 = ap (λ w. w.0) made.2 in omega arith)
    (λ later. let below = spread_below f (q + 1) xs later.0 z later.1 in omega arith)
    (got_apart (map (λ y. (q, y)) (f x)) (spread f (q + 1) xs) n z h)

-- the package of a node is one of the packages
pub package_below : (t : Tables) (n p : ℕ) → slice_get (node_packages t) n ≡ Some p → p < length t.packages
package_below t n p h =
    let made = got_made (λ (x : ℕ × LabelName). x.0) (node_places t) n p h in
    let below = spread_below labels_of 0 t.packages n made.0 made.1 in
    let same : made.0.0 ≡ p = made.2 in
    omega arith

-- the mark of a node is whether its package is in the workspace
pub mark_at : (t : Tables) (n p : ℕ) (table : PackageTable) (b : Bool) → slice_get (node_packages t) n ≡ Some p → slice_get t.packages p ≡ Some table → b ≡ table.in_workspace → slice_get (workspace_marks t) n ≡ Some b
mark_at t n p table b at is same =
    let flags = map (λ (q : PackageTable). q.in_workspace) t.packages in
    let flag : slice_get flags p ≡ Some table.in_workspace = slice_get-map (λ (q : PackageTable). q.in_workspace) t.packages p ∙ ap (option_map (λ (q : PackageTable). q.in_workspace)) is in
    slice_get-map (λ q. has flags q) (node_packages t) n ∙ ap (option_map (λ q. has flags q)) at ∙ ap Some (get_or_from_slice_get flags p table.in_workspace false flag ∙ sym same)
