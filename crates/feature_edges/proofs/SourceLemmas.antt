-- The package that a key starts at, and the least keys of the packages in turn.
use Rattle.std.proofs.Common.{◌≡◌, ℕ, zero, suc, ◌+◌, ◌<◌, ◌≤◌, ◌⊎◌, inl, inr, ⊎_elim, List, [], ◌∷◌, ◌++◌, length, take, get_or, refl, ap, sym, ◌∙◌, subst, arith, length-append, Some}
use Rattle.std.specs.Prelude.{slice_get, flat_map, Contains, AllPairs}
use Rattle.std.proofs.lemmas.List.Elements.{All-append, Contains-get_or, Contains-append_left, Contains-append_right, Contains-append_cases}
use Rattle.std.proofs.lemmas.List.Kept.{AllPairs-cons}
use Rattle.guppy_packages.specs.Rows.{Text}
use Rattle.guppy_packages.specs.Tables.{FeatureTable, Tables}
use Rattle.guppy_packages.specs.Items.{Item, feature_item, optional_item, slash_item, item_of}
use Rattle.feature_labels.specs.Names.{LabelName}
use Rattle.feature_labels.specs.Names.LabelName.{named}
use Rattle.feature_edges.specs.declared.candidate.CandidateKind.{CandidateKind}
use Rattle.feature_edges.specs.Nodes.{NodeAt, labels_of, first_node}
use Rattle.feature_edges.specs.declared.candidate.Key.{Key}
use Rattle.feature_edges.specs.inner.Keys.{IsBefore, IsNoLater, AreLeast}
use Rattle.feature_edges.specs.inner.Made.{AreFrom, AreWholeKeys, IsKept, IsKeptBefore}
use Rattle.feature_edges.specs.inner.Parts.{key, start_of, IsOfItem, IsOfPackageAt, IsOfLinkAt, IsLinkFrom, IsOfSource, IsOfTables}
use Rattle.feature_edges.proofs.AddsLemmas.{Contains-first, Contains-later, Contains-none, place_below}
use Rattle.feature_edges.proofs.LeastKeys.{AllPairs-first, AllPairs-later}
use Rattle.feature_edges.proofs.NodeLabels.{element_within}
use Rattle.feature_edges.proofs.PartLemmas.{feature_node}
use Rattle.feature_edges.proofs.Places.{got_same, node_there, node_back}

-- an element of a row precedes those of each later row
spread_before : {A B : Type 0} (f : A → List B) (p q place : ℕ) (xs : List A) (row : A) → slice_get xs p ≡ Some row → p < q → place < length (f row)
    → length (flat_map f (take p xs)) + place < length (flat_map f (take q xs))
spread_before f p q place [] row at l w = cc
spread_before f p zero place (x ∷ xs) row at l w = absurd (omega (arith, l))
spread_before f zero (suc q) place (x ∷ xs) row at l w =
    let within : place < length (f x) = subst (λ z. place < length (f z)) (sym (got_same x row at)) w in
    omega (arith, within, length-append (f x) (flat_map f (take q xs)))
spread_before f (suc p) (suc q) place (x ∷ xs) row at l w =
    let rest = spread_before f p q place xs row at (omega (arith, l)) w in
    omega (arith, rest, length-append (f x) (flat_map f (take p xs)), length-append (f x) (flat_map f (take q xs)))

-- the nodes of a package precede those of each later one
node_order : (t : Tables) (n m p q : ℕ) (k l : LabelName) → NodeAt t n p k → NodeAt t m q l → p < q → n < m
node_order t n m p q k l a b h =
    let x = node_back t n p k a in
    let y = node_back t m q l b in
    let within : x.place < length (labels_of x.row) = place_below (labels_of x.row) x.place k x.is_place in
    let before = spread_before labels_of p q x.place t.packages x.row x.is_row h within in
    omega (arith, before, x.is, y.is)

from_is : (x : Key) (u w : ℕ) (kind : CandidateKind) (source place : ℕ) → x ≡ key u w kind source place → x.from ≡ u
from_is x u w kind source place is = ap (λ z. z.from) is

pub item_from : (t : Tables) (u p : ℕ) (f : Text) (item : Item) (x : Key) → IsOfItem t u p f item x → x.from ≡ u
item_from t u p f (feature_item g) x h = from_is x _ _ _ _ _ h.1.2
item_from t u p f (optional_item d) x h = from_is x _ _ _ _ _ h.2
item_from t u p f (slash_item d g weak) x h = ⊎_elim
    (λ o. from_is x _ _ _ _ _ o.1.4.2)
    (λ o. ⊎_elim (λ i. from_is x _ _ _ _ _ i.2) (λ i. from_is x _ _ _ _ _ i.2.2) o.1)
    h

abbrev pub HasHome : Tables → ℕ → Key → Type 0
HasHome t p x = (l : LabelName) × NodeAt t x.from p l

package_home : (t : Tables) (p : ℕ) (x : Key) → IsOfPackageAt t p x → HasHome t p x
package_home t p x h = ⊎_elim
    (λ b.
    let label = element_within (labels_of h.0) b.0 b.1 in
    (label.0, subst (λ z. NodeAt t z p label.0) (sym (from_is x _ _ _ _ _ b.2.1)) (node_there t p b.0 h.0 label.0 h.1 label.1)))
    (λ b.
    let feature : FeatureTable = b.1.0 in
    let i = b.1.2 in
    let text : Text = i.1.0 in
    let from : x.from ≡ first_node t p + 1 + b.0 = item_from t (first_node t p + 1 + b.0) p feature.name (item_of text) x i.1.2 in
    (named feature.name, subst (λ z. NodeAt t z p (named feature.name)) (sym from) (feature_node t p b.0 h.0 feature h.1 b.1.1)))
    h.2

link_home : (t : Tables) (p k : ℕ) (x : Key) → IsLinkFrom t p k → IsOfLinkAt t k x → HasHome t p x
link_home t p k x leaves h =
    let d = h.2.1 in
    let label : LabelName = start_of h.0 d.0 in
    let from : h.0.from ≡ p = ap (λ z. z.from) (got_same h.0 leaves.0 (sym h.1 ∙ leaves.1)) ∙ leaves.2 in
    (label, subst (λ z. NodeAt t z p label) (sym (from_is x _ _ _ _ _ d.2.2.2.2)) (subst (λ z. NodeAt t d.2.0 z label) from d.2.1))

-- a key starts at a node of its package
pub home : (t : Tables) (p : ℕ) (x : Key) → IsOfSource t p x → HasHome t p x
home t p x (inl h) = package_home t p x h
home t p x (inr h) = link_home t p h.0 x h.1 h.2

pub tables_of_source : (t : Tables) (x : Key) → IsOfTables t x → (p : ℕ) × IsOfSource t p x
tables_of_source t x (inl h) = (h.0, inl h.1)
tables_of_source t x (inr h) = (h.1.0.from, inr (h.0, (h.1.0, h.1.1, refl), h.1))

pairs_append : {X : Type 0} (R : X → X → Type 0) (xs ys : List X) → AllPairs R xs → AllPairs R ys → ((x y : X) → Contains xs x → Contains ys y → R x y) → AllPairs R (xs ++ ys)
pairs_append R [] ys a b c = b
pairs_append R (x ∷ xs) ys a b c = AllPairs-cons R x (xs ++ ys)
    (All-append (R x) xs ys (AllPairs-first R x xs a) (λ k d l. c x (get_or ys k d) (Contains-first x xs) (Contains-get_or ys k d l)))
    (pairs_append R xs ys (AllPairs-later R x xs a) b (λ y z i j. c y z (Contains-later x xs y i) j))

-- the least keys of two lists, if the pairs of one precede those of the other
pub least_joined : (a b kept more : List Key) → AreLeast a kept → AreLeast b more → ((x y : Key) → Contains a x → Contains b y → IsBefore x y) → AreLeast (a ++ b) (kept ++ more)
least_joined a b kept more h i apart = record {
  ascends = pairs_append IsBefore kept more h.ascends i.ascends (λ x y u v. apart x y (h.from_keys x u) (i.from_keys y v));
  from_keys = λ x c. ⊎_elim (λ u. Contains-append_left a b x (h.from_keys x u)) (λ u. Contains-append_right a b x (i.from_keys x u)) (Contains-append_cases kept more x c);
  each = λ x c. ⊎_elim
      (λ u. let s = h.each x u in record { by = s.by; kept_one = Contains-append_left kept more s.by s.kept_one; pair = s.pair; least = s.least })
      (λ u. let s = i.each x u in record { by = s.by; kept_one = Contains-append_right kept more s.by s.kept_one; pair = s.pair; least = s.least })
      (Contains-append_cases a b x c);
}

pub kept_none : (t : Tables) → IsKeptBefore t 0 []
kept_none t = record {
  keys = [];
  of_nodes = λ x. ((λ c. absurd (Contains-none x c)), (λ s. absurd (omega (arith, s.2))));
  least = record { ascends = λ i j d l m. absurd (omega (arith, m)); from_keys = λ x c. c; each = λ x c. absurd (Contains-none x c) };
}

-- the least keys of more nodes
pub kept_next : (t : Tables) (n m : ℕ) (kept keys more : List Key) → n ≤ m → IsKeptBefore t n kept → AreFrom t n m keys → AreLeast keys more → IsKeptBefore t m (kept ++ more)
kept_next t n m kept keys more l h of least = record {
  keys = h.keys ++ keys;
  of_nodes = λ x. (
    (λ c. ⊎_elim
        (λ u. let s = (h.of_nodes x).0 u in (s.0, omega arith, omega (arith, s.2, l)))
        (λ u. let s = (of x).0 u in (s.0, omega arith, s.2))
        (Contains-append_cases h.keys keys x c)),
    (λ s. ⊎_elim
        (λ b. Contains-append_left h.keys keys x ((h.of_nodes x).1 (s.0, omega arith, b)))
        (λ b. Contains-append_right h.keys keys x ((of x).1 (s.0, b, s.2)))
        (split x.from n)),
  );
  least = least_joined h.keys keys kept more h.least least (λ x y u v.
      let s = (h.of_nodes x).0 u in
      let r = (of y).0 v in
      inl (omega (arith, s.2, r.1)));
}
  where
    split : (k m : ℕ) → (k < m) ⊎ (m ≤ k)
    split k m = grind arith

-- sorted keys of some nodes are all keys of these
pub whole_keys : (t : Tables) (n m : ℕ) (keys : List Key) → AllPairs IsNoLater keys → AreFrom t n m keys → AreWholeKeys t keys
whole_keys t n m keys ordered of = record {
  ordered = ordered;
  of_tables = λ y h. ((of y).0 h).0;
  whole = λ x y a b e. let r = (of x).0 a in (of y).1 (b, omega (arith, r.1, e), omega (arith, r.2, e));
}

-- a key starts at a node of some package
from_below : (t : Tables) (x : Key) → IsOfTables t x → x.from < first_node t (length t.packages)
from_below t x i =
    let q = tables_of_source t x i in
    let a = home t q.0 x q.1 in
    let y = node_back t x.from q.0 a.0 a.1 in
    let before = spread_before labels_of q.0 (length t.packages) y.place t.packages y.row y.is_row (place_below t.packages q.0 y.row y.is_row) (place_below (labels_of y.row) y.place a.0 y.is_place) in
    omega (arith, before, y.is)

-- the least keys of all nodes are those of the tables
pub kept_all : (t : Tables) (kept : List Key) → IsKeptBefore t (first_node t (length t.packages)) kept → IsKept t kept
kept_all t kept h = record {
  keys = h.keys;
  of_tables = λ x. (
    (λ c. ((h.of_nodes x).0 c).0),
    (λ i. (h.of_nodes x).1 (i, omega arith, from_below t x i)),
  );
  least = h.least;
}
