-- One command over the same bytes has one answer.
use Rattle.std.proofs.Common.{◌≡◌, ℕ, ◌<◌, ◌⊎◌, inl, inr, List, [], ◌∷◌, ◌++◌, Bool, true, false, Result, Ok, Err, Some, sym, ap, ◌∙◌, refl, cond, filter, map, arith, rules}
use Rattle.std.specs.Prelude.{IsFalse, IsTrue, slice_get}
use Rattle.std.specs.List.{enumerate_from}
use Rattle.digraphs.specs.Bits.{has}
use Rattle.digraph_orders.specs.Laws.{OneOrder, OrderListsEach}
use Rattle.digraph_orders.specs.Sequences.{Sequence}
use Rattle.guppy_packages.specs.Rows.{Text}
use Rattle.guppy_packages.specs.Tables.{Tables}
use Rattle.guppy_packages.specs.declared.direction.DependencyDirection.{DependencyDirection}
use Rattle.feature_labels.specs.Names.{LabelName, id_text, label_cmp}
use Rattle.std.specs.Cmp.{IsTotalOrder}
use Rattle.feature_core.specs.Built.{Built, IsBuilt, digraph_of}
use Rattle.feature_core.specs.Nodes.{nodes}
use Rattle.feature_core.specs.Pairs.{Reach}
use Rattle.feature_core.specs.Offers.{content_of}
use Rattle.feature_labels.specs.Lists.{joined}
use Rattle.walk_engine.specs.declared.walks.Half.{Half}
use Rattle.walk_engine.specs.Walks.{Content, Least}
use Rattle.walk_engine.specs.Laws.{every}
use Rattle.feature_graph.specs.Names.{AreKnown, IsFirstUnknown, HoldsExactly, at_places, names_of_nodes}
use Rattle.feature_graph.specs.Tied.{cycle_names}
use Rattle.guppy_tool.specs.Faults.{Refusal, unknown_feature}
use Rattle.guppy_tool.specs.RowFileRefusals.{tables_in}
use Rattle.guppy_tool.specs.Words.{CommandText, resolve, visit, ordered, all_cycles, list_of, all_warnings, build}
use Rattle.guppy_tool.specs.Answers.{Resolves, Visits, OrdersNodes, ListsInOrder, ListsCycles, ListsFeatures, groups, listing, read_by}
use Rattle.guppy_tool.proofs.LabelLists.{one_list}
use Rattle.guppy_tool.proofs.SameOrders.{one_sequence}
use Rattle.guppy_tool.specs.Laws.{has_choice}
use Rattle.guppy_tool.specs.Run.{IsOutputOf, IsAnswer}

-- two tests that imply each other are equal
same_test : (a b : Bool) → (IsTrue a → IsTrue b) → (IsTrue b → IsTrue a) → a ≡ b
same_test true b f g = sym (f refl)
same_test false true f g = g refl
same_test false false f g = refl

filter_alike : {X : Type 0} (p q : X → Bool) (xs : List X) → ((x : X) → p x ≡ q x) → filter p xs ≡ filter q xs
filter_alike p q [] same = refl
filter_alike p q (x ∷ xs) same = ap (λ b. cond b (x ∷ filter p xs) (filter p xs)) (same x) ∙ ap (λ rest. cond (q x) (x ∷ rest) rest) (filter_alike p q xs same)

at_places_alike : {X : Type 0} (p q : ℕ → Bool) (xs : List X) → ((n : ℕ) → p n ≡ q n) → at_places p xs ≡ at_places q xs
at_places_alike p q xs same = ap (map (λ x. x.1)) (filter_alike (λ x. p x.0) (λ x. q x.0) (enumerate_from 0 xs) (λ x. same x.0))

-- more initial nodes reach more nodes
reach_grows : (t : Tables) (direction : DependencyDirection) (p q : ℕ → Bool) (n : ℕ) → ((u : ℕ) → IsTrue (p u) → IsTrue (q u)) → Reach t direction p n → Reach t direction q n
reach_grows t direction p q n more (u, starts, path) = (u, more u starts, path)

-- two sets of initial nodes for the same ids have the same members
pub same_initials : (t : Tables) (xs ys : List Bool) (ids : List (Text × LabelName)) → HoldsExactly t xs ids → HoldsExactly t ys ids → (n : ℕ) → IsTrue (has xs n) → IsTrue (has ys n)
same_initials t xs ys ids a b n h = (b.exact n).1 ((a.exact n).0 h)

reached_too : (t : Tables) (direction : DependencyDirection) (ids : List (Text × LabelName)) (x y : Text) (a : Resolves t direction ids x) (b : Resolves t direction ids y) (n : ℕ) → IsTrue (has a.members n) → IsTrue (has b.members n)
reached_too t direction ids x y a b n h = (b.reached n).1 (reach_grows t direction (has a.initials) (has b.initials) n (same_initials t a.initials b.initials ids a.given b.given) ((a.reached n).0 h))

one_text : (t : Tables) (direction : DependencyDirection) (ids : List (Text × LabelName)) (x y : Text) → Resolves t direction ids x → Resolves t direction ids y → x ≡ y
one_text t direction ids x y a b =
    let same : (n : ℕ) → has a.members n ≡ has b.members n = λ n. same_test (has a.members n) (has b.members n) (reached_too t direction ids x y a b n) (reached_too t direction ids y x b a n) in
    a.lines ∙ ap listing (at_places_alike (has a.members) (has b.members) (nodes t) same) ∙ sym b.lines

-- a least set from more initial nodes has more members
pub least_grows : (c : Content) (p q : ℕ → Bool) (A : ℕ → Half → Bool) (n : ℕ) → ((u : ℕ) → IsTrue (p u) → IsTrue (q u)) → Least c p A n → Least c q A n
least_grows c p q A n more least S is_closed = least S (record { initial = λ u h. is_closed.initial u (more u h); unasked = is_closed.unasked; offered = is_closed.offered })

visited_too : (t : Tables) (direction : DependencyDirection) (ids : List (Text × LabelName)) (x y : Text) (a : Visits t direction ids x) (b : Visits t direction ids y) (n : ℕ) → IsTrue (has a.members n) → IsTrue (has b.members n)
visited_too t direction ids x y a b n h =
    (b.least a.built a.is_built n).1
    (least_grows (content_of direction a.built) (has a.initials) (has b.initials) every n (same_initials t a.initials b.initials ids a.given b.given) ((a.least a.built a.is_built n).0 h))

one_visit : (t : Tables) (direction : DependencyDirection) (ids : List (Text × LabelName)) (x y : Text) → Visits t direction ids x → Visits t direction ids y → x ≡ y
one_visit t direction ids x y a b =
    let same : (n : ℕ) → has a.members n ≡ has b.members n = λ n. same_test (has a.members n) (has b.members n) (visited_too t direction ids x y a b n) (visited_too t direction ids y x b a n) in
    a.lines ∙ ap listing (at_places_alike (has a.members) (has b.members) (nodes t) same) ∙ sym b.lines

-- the nodes have one order
one_order_of_nodes : OneOrder → OrderListsEach → (t : Tables) (o p : Sequence) → OrdersNodes t o → OrdersNodes t p → o ≡ p
one_order_of_nodes one lists t o p a b = one_sequence one lists (digraph_of a.built) o p (a.every a.built a.is_built) (b.every a.built a.is_built)

one_ordered : OneOrder → OrderListsEach → (t : Tables) (direction : DependencyDirection) (x y : Text) → ListsInOrder t direction x → ListsInOrder t direction y → x ≡ y
one_ordered one lists t direction x y a b =
    a.lines
    ∙ ap (λ (o : Sequence). listing (names_of_nodes t (read_by direction o.list))) (one_order_of_nodes one lists t a.order b.order a.is_order b.is_order)
    ∙ sym b.lines

one_cycles : OneOrder → OrderListsEach → (t : Tables) (x y : Text) → ListsCycles t x → ListsCycles t y → x ≡ y
one_cycles one lists t x y a b =
    let built : Built = a.is_order.built in
    let is : IsBuilt t built = a.is_order.is_built in
    a.lines built is
    ∙ ap (λ o. groups (cycle_names (record { tables = t; built = built }) o)) (one_order_of_nodes one lists t a.order b.order a.is_order b.is_order)
    ∙ sym (b.lines built is)

one_line : IsTotalOrder label_cmp → (t : Tables) (id x y : Text) → ListsFeatures t id x → ListsFeatures t id y → x ≡ y
one_line order t id x y a b =
    let table = a.known.0 in
    let mine = a.own table a.known.1 a.known.2 in
    let its = b.own table a.known.1 a.known.2 in
    let same : a.labels ≡ b.labels = one_list label_cmp order a.labels b.labels a.ascends b.ascends (λ l h. (its l).0 ((mine l).1 h)) (λ l h. (mine l).0 ((its l).1 h)) in
    a.line ∙ ap (λ labels. joined labels ++ 10 ∷ []) same ∙ sym b.line

-- if all ids are known, none is the first unknown one
not_both : (t : Tables) (ids : List (Text × LabelName)) (id : Text × LabelName) → AreKnown t ids → IsFirstUnknown t ids id → ⊥
not_both t ids id known first = first.unknown (known first.place id first.at)

compare : (m n : ℕ) → (m < n) ⊎ ((n < m) ⊎ (m ≡ n))
compare m n = search (rules, arith)

some_same : {X : Type 0} (x y : X) → ◌≡◌ (Some x) (Some y) → x ≡ y
some_same x y e = cc

one_first : (t : Tables) (ids : List (Text × LabelName)) (x y : Text × LabelName) → IsFirstUnknown t ids x → IsFirstUnknown t ids y → x ≡ y
one_first t ids x y a b =
    elim (compare a.place b.place) [
      | inl less ↦ absurd (a.unknown (b.before a.place x less a.at))
      | inr rest ↦ elim rest [
        | inl less ↦ absurd (b.unknown (a.before b.place y less b.at))
        | inr same ↦ some_same x y (sym a.at ∙ ap (slice_get ids) same ∙ b.at)
      ]
    ]

one_output : IsTotalOrder label_cmp → OneOrder → OrderListsEach → (command : CommandText) (tables : Result Tables Refusal) (a b : Result Text Refusal) → IsFalse (has_choice command) → IsOutputOf command tables a → IsOutputOf command tables b → a ≡ b
one_output order one lists command (Err refusal) a b fixed x y = x ∙ sym y
one_output order one lists (resolve direction ids) (Ok t) (Ok text) (Ok other) fixed x y = ap Ok (one_text t direction ids text other x y)
one_output order one lists (resolve direction ids) (Ok t) (Ok text) (Err refusal) fixed x y = absurd (not_both t ids y.id x.known y.first)
one_output order one lists (resolve direction ids) (Ok t) (Err refusal) (Ok text) fixed x y = absurd (not_both t ids x.id y.known x.first)
one_output order one lists (resolve direction ids) (Ok t) (Err refusal) (Err other) fixed x y =
    ap Err (x.named ∙ ap (λ id. unknown_feature (id_text id)) (one_first t ids x.id y.id x.first y.first) ∙ sym y.named)
one_output order one lists (visit direction ids) (Ok t) (Ok text) (Ok other) fixed x y = ap Ok (one_visit t direction ids text other x y)
one_output order one lists (visit direction ids) (Ok t) (Ok text) (Err refusal) fixed x y = absurd (not_both t ids y.id x.known y.first)
one_output order one lists (visit direction ids) (Ok t) (Err refusal) (Ok text) fixed x y = absurd (not_both t ids x.id y.known x.first)
one_output order one lists (visit direction ids) (Ok t) (Err refusal) (Err other) fixed x y =
    ap Err (x.named ∙ ap (λ id. unknown_feature (id_text id)) (one_first t ids x.id y.id x.first y.first) ∙ sym y.named)
one_output order one lists (ordered direction) (Ok t) (Ok text) (Ok other) fixed x y = ap Ok (one_ordered one lists t direction text other x y)
one_output order one lists (ordered direction) (Ok t) (Ok text) (Err refusal) fixed x y = absurd y
one_output order one lists (ordered direction) (Ok t) (Err refusal) answer fixed x y = absurd x
one_output order one lists all_cycles (Ok t) (Ok text) (Ok other) fixed x y = ap Ok (one_cycles one lists t text other x y)
one_output order one lists all_cycles (Ok t) (Ok text) (Err refusal) fixed x y = absurd y
one_output order one lists all_cycles (Ok t) (Err refusal) answer fixed x y = absurd x
one_output order one lists (list_of id) (Ok t) (Ok text) (Ok other) fixed x y = ap Ok (one_line order t id text other x y)
one_output order one lists (list_of id) (Ok t) (Ok text) (Err refusal) fixed x y = absurd (y.1 x.known)
one_output order one lists (list_of id) (Ok t) (Err refusal) (Ok text) fixed x y = absurd (x.1 y.known)
one_output order one lists (list_of id) (Ok t) (Err refusal) (Err other) fixed x y = ap Err (x.0 ∙ sym y.0)
one_output order one lists all_warnings (Ok t) (Ok text) (Ok other) fixed x y = ap Ok (x ∙ sym y)
one_output order one lists all_warnings (Ok t) (Ok text) (Err refusal) fixed x y = absurd y
one_output order one lists all_warnings (Ok t) (Err refusal) answer fixed x y = absurd x
one_output order one lists (build kinds ids specs) (Ok t) a b fixed x y = absurd (cc)

pub one_answer : IsTotalOrder label_cmp → OneOrder → OrderListsEach → (command : CommandText) (bytes : Text) (a b : Result Text Refusal) → IsFalse (has_choice command) → IsAnswer command bytes a → IsAnswer command bytes b → a ≡ b
one_answer order one lists command bytes a b = one_output order one lists command (tables_in bytes) a b

-- a refusal is the only answer
refused_output : IsTotalOrder label_cmp → OneOrder → OrderListsEach → (command : CommandText) (tables : Result Tables Refusal) (refusal : Refusal) (b : Result Text Refusal) → IsOutputOf command tables (Err refusal) → IsOutputOf command tables b → b ≡ Err refusal
refused_output order one lists command (Err other) refusal b x y = y ∙ sym x
refused_output order one lists (resolve direction ids) (Ok t) refusal b x y = sym (one_output order one lists (resolve direction ids) (Ok t) (Err refusal) b refl x y)
refused_output order one lists (visit direction ids) (Ok t) refusal b x y = sym (one_output order one lists (visit direction ids) (Ok t) (Err refusal) b refl x y)
refused_output order one lists (ordered direction) (Ok t) refusal b x y = absurd x
refused_output order one lists all_cycles (Ok t) refusal b x y = absurd x
refused_output order one lists (list_of id) (Ok t) refusal b x y = sym (one_output order one lists (list_of id) (Ok t) (Err refusal) b refl x y)
refused_output order one lists all_warnings (Ok t) refusal b x y = absurd x
refused_output order one lists (build kinds ids specs) (Ok t) refusal (Ok text) x y = absurd (not_both t ids x.id y.known x.first)
refused_output order one lists (build kinds ids specs) (Ok t) refusal (Err other) x y =
    ap Err (y.named ∙ ap (λ id. unknown_feature (id_text id)) (one_first t ids y.id x.id y.first x.first) ∙ sym x.named)

pub one_refusal : IsTotalOrder label_cmp → OneOrder → OrderListsEach → (command : CommandText) (bytes : Text) (refusal : Refusal) (b : Result Text Refusal) → IsAnswer command bytes (Err refusal) → IsAnswer command bytes b → b ≡ Err refusal
one_refusal order one lists command bytes refusal b = refused_output order one lists command (tables_in bytes) refusal b
