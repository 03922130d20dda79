-- Lists with the same elements at the same indices, equality of sets, and look-ups of names.
use Rattle.std.proofs.Common.{◌≡◌, ℕ, zero, suc, ◌<◌, ◌≤◌, Bool, true, false, ◌||◌, List, [], ◌∷◌, length, Option, Some, refl, sym, ap, arith, nat_eq}
use Rattle.std.specs.Prelude.{IsTrue, slice_get}
use Rattle.std.specs.List.{list_any}
use Rattle.std.specs.Bool.{Decides}
use Rattle.std.specs.Cmp.Lexicographic.{pointwise, bytes_decides}
use Rattle.std.proofs.lemmas.Bool.Decides.{Decides-and, Decides-eqb}
use Rattle.std.proofs.lemmas.Slice.Eq.{slice_eq-Decides}
use Rattle.digraphs.specs.Bits.{members}
use Rattle.guppy_packages.specs.Rows.{Text}
use Rattle.guppy_packages.specs.Tables.{Tables}
use Rattle.feature_core.specs.Nodes.{nodes}
use Rattle.feature_labels.specs.Names.{LabelName}
use Rattle.feature_labels.specs.Orders.{label_eq}
use Rattle.feature_labels.proofs.OrderLemmas.{label_eq-Decides}
use Rattle.feature_graph.specs.Names.{HasFeature, has_feature}
use Rattle.feature_graph.specs.SetValues.{AreEqualSets, name_eq, graph_eq, set_eq}
use Rattle.feature_graph.specs.Values.{Set}

-- lists of one length with the same elements are equal
pub same_list : {X : Type 0} (xs ys : List X) → length xs ≡ length ys → ((k : ℕ) → k < length xs → slice_get xs k ≡ slice_get ys k) → xs ≡ ys
same_list [] [] long same = refl
same_list [] (y ∷ ys) long same = absurd (omega (arith, long))
same_list (x ∷ xs) [] long same = absurd (omega (arith, long))
same_list {X} (x ∷ xs) (y ∷ ys) long same =
    let here : ◌≡◌ {A = Option X} (Some x) (Some y) = same 0 (omega arith) in
    let first : x ≡ y = cc in
    let rest : xs ≡ ys = same_list xs ys (omega (arith, long)) (λ k within. same (suc k) (omega arith)) in
    (λ i. first i ∷ rest i)

-- the features below this node are the same
abbrev pub SameBelow : List (Text × LabelName) → List (Text × LabelName) → ℕ → Type 0
SameBelow xs ys n = (k : ℕ) → k < n → slice_get xs k ≡ slice_get ys k

module _ (xs ys : List (Text × LabelName)) where
  pub below_all : (n : ℕ) → length xs ≡ length ys → length xs ≤ n → SameBelow xs ys n → xs ≡ ys
  below_all n long past before = same_list xs ys long (λ k within. before k (omega arith))

-- the tests for equal names, graphs and sets decide equality
name_eq-Decides : (a b : Text × LabelName) → Decides (name_eq a b) (a ≡ b)
name_eq-Decides a b =
    let both = Decides-and (pointwise nat_eq a.0 b.0) (label_eq a.1 b.1) (bytes_decides a.0 b.0) (label_eq-Decides a.1 b.1) in
    (λ e. (λ i. ((both.0 e).0 i, (both.0 e).1 i)), λ e. both.1 (ap (λ id. id.0) e, ap (λ id. id.1) e))

-- a name passes the test exactly if it is in the list
name_there : (name : Text × LabelName) (xs : List (Text × LabelName)) → IsTrue (list_any (name_eq name) xs) → (n : ℕ) × (slice_get xs n ≡ Some name)
name_there name [] h = cc
name_there name (x ∷ xs) h = at (name_eq name x) refl h (λ k. name_there name xs k)
  where
    at : (b : Bool) → name_eq name x ≡ b → IsTrue (b || list_any (name_eq name) xs) → (IsTrue (list_any (name_eq name) xs) → (n : ℕ) × (slice_get xs n ≡ Some name)) → (n : ℕ) × (slice_get (x ∷ xs) n ≡ Some name)
    at true same k later = (0, ap Some (sym ((name_eq-Decides name x).0 same)))
    at false same k later = let rest = later k in (suc rest.0, rest.1)

name_passes : (name : Text × LabelName) (xs : List (Text × LabelName)) (n : ℕ) → slice_get xs n ≡ Some name → IsTrue (list_any (name_eq name) xs)
name_passes name [] n at = cc
name_passes name (x ∷ xs) zero at =
    let same : name ≡ x = cc in
    ap (λ b. b || list_any (name_eq name) xs) ((name_eq-Decides name x).1 same)
name_passes name (x ∷ xs) (suc n) at = passes (name_eq name x) (name_passes name xs n at)
  where
    passes : (b : Bool) → IsTrue (list_any (name_eq name) xs) → IsTrue (b || list_any (name_eq name) xs)
    passes true h = refl
    passes false h = h

pub feature_is_there : (t : Tables) (name : Text × LabelName) → IsTrue (has_feature t name) → HasFeature t name
feature_is_there t name h = name_there name (nodes t) h

pub feature_passes : (t : Tables) (name : Text × LabelName) → HasFeature t name → IsTrue (has_feature t name)
feature_passes t name (n, at) = name_passes name (nodes t) n at

names_eq-Decides : (xs ys : List (Text × LabelName)) → Decides (pointwise name_eq xs ys) (xs ≡ ys)
names_eq-Decides xs ys = slice_eq-Decides name_eq-Decides xs ys (pointwise name_eq xs ys) refl

pub set_eq-Decides : (a b : Set) → Decides (set_eq a b) (AreEqualSets a b)
set_eq-Decides a b =
    let graphs = Decides-and (nat_eq a.graph.built.stamp b.graph.built.stamp) (pointwise name_eq (nodes a.graph.tables) (nodes b.graph.tables))
    (Decides-eqb a.graph.built.stamp b.graph.built.stamp) (names_eq-Decides (nodes a.graph.tables) (nodes b.graph.tables)) in
    let all = Decides-and (graph_eq a.graph b.graph) (pointwise nat_eq (members a.members) (members b.members)) graphs (bytes_decides (members a.members) (members b.members)) in (
      λ e. let both = all.0 e in record { graph = record { stamp = both.0.0; names = both.0.1 }; members = both.1 },
      λ e. all.1 ((e.graph.stamp, e.graph.names), e.members),
    )
