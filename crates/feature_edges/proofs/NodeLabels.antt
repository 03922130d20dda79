-- The label of a node, by the node's number.
use Rattle.std.proofs.Common.{◌≡◌, ℕ, zero, suc, ◌+◌, ◌-◌, ◌<◌, ◌≤◌, List, [], ◌∷◌, length, map, Some, sym, ap, ◌∙◌, subst, arith, refl}
use Rattle.std.specs.Prelude.{slice_get, slice_index, slice_index_or}
use Rattle.std.specs.Option.{option_map}
use Rattle.std.proofs.lemmas.List.{length-map}
use Rattle.std.proofs.lemmas.Option.{slice_get-map, slice_get_read}
use Rattle.guppy_packages.specs.Rows.{Text}
use Rattle.guppy_packages.specs.Tables.{FeatureTable, PackageTable, Tables}
use Rattle.feature_labels.specs.Names.{LabelName}
use Rattle.feature_labels.specs.Names.LabelName.{named, optional}
use Rattle.feature_edges.specs.Nodes.{NodeAt, labels_of, first_node, node_places, node_packages}
use Rattle.feature_links.specs.Links.{IsPackage}
use Rattle.feature_edges.proofs.AddsLemmas.{place_below}
use Rattle.feature_edges.proofs.LabelLemmas.{named_label, optional_label}
use Rattle.feature_edges.proofs.Places.{node_there, node_back}

-- an element at an index, and its image under a map
pub read_map : {X Y : Type 0} (f : X → Y) (xs : List X) (ys : List Y) (k : ℕ) (x : X) → map f xs ≡ ys → k < length xs → x ≡ slice_index_or xs k x → slice_get ys k ≡ Some (f x)
read_map f xs ys k x e l is =
    ap (λ z. slice_get z k) (sym e) ∙ slice_get-map f xs k ∙ ap (option_map f) (slice_get_read xs (length xs) k x refl l is)

pub named_at : (table : PackageTable) (place k : ℕ) (feature : FeatureTable) (name : Text) → place ≡ suc k → slice_get table.features k ≡ Some feature → name ≡ feature.name → slice_get (labels_of table) place ≡ Some (named name)
named_at table place k feature name e at same = ap (slice_get (labels_of table)) e ∙ named_label table k feature at ∙ ap (λ z. Some (named z)) (sym same)

pub optional_at : (table : PackageTable) (place k : ℕ) (found name : Text) → place ≡ suc (length table.features + k) → slice_get table.optional_names k ≡ Some found → name ≡ found → slice_get (labels_of table) place ≡ Some (optional name)
optional_at table place k found name e at same = ap (slice_get (labels_of table)) e ∙ optional_label table k found at ∙ ap (λ z. Some (optional z)) (sym same)

-- node `n` has a place in package `p`
pub record IsWithin (t : Tables) (n p : ℕ) : Type 0 where
  pub table : PackageTable
  pub is_package : IsPackage t p table
  pub below : p < length t.packages
  pub first : first_node t p ≤ n
  pub place : n - first_node t p < length (labels_of table)

pub element_within : {X : Type 0} (xs : List X) (k : ℕ) → k < length xs → (x : X) × (slice_get xs k ≡ Some x)
element_within [] k l = absurd (omega (arith, l))
element_within (x ∷ xs) zero l = (x, refl)
element_within (x ∷ xs) (suc k) l = element_within xs k (omega (arith, l))

pub index_there : (xs : List ℕ) (k x : ℕ) → slice_get xs k ≡ Some x → slice_index xs k ≡ x
index_there [] k x h = cc
index_there (y ∷ ys) zero x h = cc
index_there (y ∷ ys) (suc k) x h = index_there ys k x h

-- each node has a place in its package
pub in_package : (t : Tables) (packages : List ℕ) (n p : ℕ) → packages ≡ node_packages t → n < length packages → p ≡ slice_index packages n → IsWithin t n p
in_package t packages n p e l is =
    let place_of : ℕ × LabelName → ℕ = λ x. x.0 in
    let long : length packages ≡ length (node_places t) = ap length e ∙ length-map (node_places t) place_of in
    let x = element_within (node_places t) n (omega arith) in
    let at : slice_get packages n ≡ Some x.0.0 = ap (λ z. slice_get z n) e ∙ slice_get-map place_of (node_places t) n ∙ ap (option_map place_of) x.1 in
    let same : x.0.0 ≡ p = sym (is ∙ index_there packages n x.0.0 at) in
    let s = node_back t n x.0.0 x.0.1 x.1 in
    subst (λ z. IsWithin t n z) same (record {
      table = s.row;
      is_package = s.is_row;
      below = place_below t.packages x.0.0 s.row s.is_row;
      first = omega (arith, s.is);
      place =
          let there : n - first_node t x.0.0 ≡ s.place = omega (arith, s.is) in
          let within : s.place < length (labels_of s.row) = place_below (labels_of s.row) s.place x.0.1 s.is_place in
          omega arith;
    })

-- a node whose place has a label is that label
pub node_of_place : (t : Tables) (n p place : ℕ) (table : PackageTable) (label : LabelName) → IsPackage t p table → first_node t p ≤ n → place ≡ n - first_node t p → slice_get (labels_of table) place ≡ Some label → NodeAt t n p label
node_of_place t n p place table label is above e at = subst (λ z. NodeAt t z p label) (omega (arith, above, e)) (node_there t p place table label is at)
