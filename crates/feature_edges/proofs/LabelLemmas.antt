-- The node of a label, by the label's place in its package.
use Rattle.std.proofs.Common.{◌≡◌, ◌≢◌, ℕ, zero, suc, ◌+◌, ◌<◌, ◌^◌, ◌⊎◌, inl, inr, ⊎_elim, List, ◌∷◌, [], length, map, Bool, true, false, cond, Option, Some, None, refl, ap, sym, ◌∙◌, subst, arith}
use Rattle.std.specs.Prelude.{slice_get, slice_index, position, ◌↔◌}
use Rattle.std.proofs.lemmas.List.FromFn.{length-map-range_with_len, get_or-map-range_with_len}
use Rattle.std.specs.List.{position_from}
use Rattle.std.specs.Option.{option_map}
use Rattle.std.specs.Str.{bytes_eq}
use Rattle.std.specs.Cmp.Lexicographic.{bytes_decides}
use Rattle.std.proofs.lemmas.Option.{slice_get-map}
use Rattle.std.proofs.lemmas.List.{length-map}
use Rattle.std.proofs.lemmas.Iterator.Adapters.{position_from-zero}
use Rattle.guppy_packages.specs.Rows.{Text}
use Rattle.guppy_packages.specs.Tables.{FeatureTable, PackageTable, Tables, AreTables, feature_place, optional_place}
use Rattle.feature_labels.specs.Names.{LabelName}
use Rattle.feature_labels.specs.Names.LabelName.{base, named, optional}
use Rattle.feature_edges.specs.Nodes.{NodeAt, labels_of, first_node, first_nodes, node_places}
use Rattle.feature_links.specs.Links.{IsPackage}
use Rattle.feature_edges.proofs.AddsLemmas.{place_below}
use Rattle.feature_edges.proofs.NodeLemmas.{length_labels}
use Rattle.feature_edges.proofs.Places.{node_there, node_back, get_left, get_right, get_cases, got_map}

pub record IsPlace {X : Type 0} (test : X → Bool) (xs : List X) (k : ℕ) : Type 0 where
  pub element : X
  pub there : slice_get xs k ≡ Some element
  pub passes : test element ≡ true

by_test : {X : Type 0} (b : Bool) (P : X → Type 0) (x y : X) → P (cond b x y) → ((b ≡ true) × P x) ⊎ ((b ≡ false) × P y)
by_test true P x y h = inl (refl, h)
by_test false P x y h = inr (refl, h)

same_some : (m n : ℕ) → ◌≡◌ {A = Option ℕ} (Some m) (Some n) → m ≡ n
same_some m n h = cc

from_there : {X : Type 0} (test : X → Bool) (o n : ℕ) (xs : List X) → position_from test o xs ≡ Some n → (k : ℕ) × (n ≡ o + k) × IsPlace test xs k
from_there test o n [] h = cc
from_there test o n (x ∷ xs) h = ⊎_elim
    (λ e. let s = same_some o n e.1 in (0, omega arith, record { element = x; there = refl; passes = e.0 }))
    (λ e. let r = from_there test (o + 1) n xs e.1 in (suc r.0, omega (arith, r.1), record { element = r.2.element; there = r.2.there; passes = r.2.passes }))
    (by_test (test x) (λ z. z ≡ Some n) (Some o) (position_from test (o + 1) xs) h)

from_missing : {X : Type 0} (test : X → Bool) (o k : ℕ) (xs : List X) (x : X) → position_from test o xs ≡ None → slice_get xs k ≡ Some x → test x ≡ true → ⊥
from_missing test o k [] x h e t = cc
from_missing test o k (y ∷ ys) x h e t = ⊎_elim (λ i. none_some o i.1) (λ i. next k e i (λ j a. from_missing test (o + 1) j ys x i.1 a t)) (by_test (test y) (λ z. z ≡ None) (Some o) (position_from test (o + 1) ys) h)
  where
    none_some : (o : ℕ) → ◌≡◌ {A = Option ℕ} (Some o) None → ⊥
    none_some o h = cc

    apart : (b : Bool) → b ≡ true → b ≡ false → ⊥
    apart b h i = cc

    next : (k : ℕ) → slice_get (y ∷ ys) k ≡ Some x → (test y ≡ false) × (position_from test (o + 1) ys ≡ None) → ((j : ℕ) → slice_get ys j ≡ Some x → ⊥) → ⊥
    next zero e i more =
        let same : y ≡ x = cc in
        apart (test x) t (sym (ap test same) ∙ i.0)
    next (suc k) e i more = more k e

-- the place that `position` finds, and that it finds each element that passes
pub position_there : {X : Type 0} (test : X → Bool) (k : ℕ) (xs : List X) → position test xs ≡ Some k → IsPlace test xs k
position_there test k xs h =
    let r = from_there test 0 k xs (sym (position_from-zero test xs) ∙ h) in
    subst (λ z. IsPlace test xs z) (let e : r.0 ≡ k = omega (arith, r.1) in e) r.2

pub position_missing : {X : Type 0} (test : X → Bool) (k : ℕ) (xs : List X) (x : X) → position test xs ≡ None → slice_get xs k ≡ Some x → test x ≡ true → ⊥
position_missing test k xs x h e t = from_missing test 0 k xs x (sym (position_from-zero test xs) ∙ h) e t

base_apart : (l : LabelName) → l ≢ base → ◌≡◌ {A = Option LabelName} (Some base) (Some l) → ⊥
base_apart l ne h = let e : base ≡ l = cc in ne (sym e)

optional_named : (c d : Text) → optional c ≡ named d → ⊥
optional_named c d h = cc

named_optional : (c d : Text) → named c ≡ optional d → ⊥
named_optional c d h = cc

named_base : (c : Text) → named c ≡ base → ⊥
named_base c h = cc

optional_base : (c : Text) → optional c ≡ base → ⊥
optional_base c h = cc

named_same : (c d : Text) → named c ≡ named d → c ≡ d
named_same c d h = cc

optional_same : (c d : Text) → optional c ≡ optional d → c ≡ d
optional_same c d h = cc

-- the place of a named feature among the labels, and of an optional name
pub named_label : (table : PackageTable) (k : ℕ) (feature : FeatureTable) → slice_get table.features k ≡ Some feature → slice_get (labels_of table) (suc k) ≡ Some (named feature.name)
named_label table k feature h = get_left (map (λ f. named f.name) table.features) (map (λ d. optional d) table.optional_names) k (named feature.name) (slice_get-map (λ f. named f.name) table.features k ∙ ap (option_map (λ f. named f.name)) h)

pub optional_label : (table : PackageTable) (k : ℕ) (name : Text) → slice_get table.optional_names k ≡ Some name → slice_get (labels_of table) (suc (length table.features + k)) ≡ Some (optional name)
optional_label table k name h =
    let long : length (map (λ f. named f.name) table.features) ≡ length table.features = length-map table.features (λ f. named f.name) in
    get_right (map (λ f. named f.name) table.features) (map (λ d. optional d) table.optional_names) (length table.features + k) k (omega arith)
    ∙ slice_get-map (λ d. optional d) table.optional_names k ∙ ap (option_map (λ d. optional d)) h

-- the feature at a label's place
pub named_back : (table : PackageTable) (k : ℕ) (name : Text) → slice_get (labels_of table) k ≡ Some (named name) → (j : ℕ) × (k ≡ suc j) × ((feature : FeatureTable) × (slice_get table.features j ≡ Some feature) × (feature.name ≡ name))
named_back table zero name h = absurd (base_apart (named name) (named_base name) h)
named_back table (suc k) name h = ⊎_elim
    (λ e. let m = got_map (λ f. named f.name) (slice_get table.features k) (named name) (sym (slice_get-map (λ f. named f.name) table.features k) ∙ e) in (k, refl, (m.0, m.1, named_same m.0.name name m.2)))
    (λ e. let m = got_map (λ d. optional d) (slice_get table.optional_names e.0) (named name) (sym (slice_get-map (λ d. optional d) table.optional_names e.0) ∙ e.2) in absurd (optional_named m.0 name m.2))
    (get_cases (map (λ f. named f.name) table.features) (map (λ d. optional d) table.optional_names) k (named name) h)

optional_back : (table : PackageTable) (k : ℕ) (name : Text) → slice_get (labels_of table) k ≡ Some (optional name) → (j : ℕ) × (k ≡ suc (length table.features + j)) × (slice_get table.optional_names j ≡ Some name)
optional_back table zero name h = absurd (base_apart (optional name) (optional_base name) h)
optional_back table (suc k) name h = ⊎_elim
    (λ e. let m = got_map (λ f. named f.name) (slice_get table.features k) (optional name) (sym (slice_get-map (λ f. named f.name) table.features k) ∙ e) in absurd (named_optional m.0.name name m.2))
    (λ e.
    let m = got_map (λ d. optional d) (slice_get table.optional_names e.0) (optional name) (sym (slice_get-map (λ d. optional d) table.optional_names e.0) ∙ e.2) in
    let long : length (map (λ f. named f.name) table.features) ≡ length table.features = length-map table.features (λ f. named f.name) in
    (e.0, omega (arith, e.1), m.1 ∙ ap Some (optional_same m.0 name m.2)))
    (get_cases (map (λ f. named f.name) table.features) (map (λ d. optional d) table.optional_names) k (optional name) h)

base_back : (table : PackageTable) (k : ℕ) → slice_get (labels_of table) k ≡ Some base → k ≡ 0
base_back table zero h = refl
base_back table (suc k) h = ⊎_elim
    (λ e. let m = got_map (λ f. named f.name) (slice_get table.features k) base (sym (slice_get-map (λ f. named f.name) table.features k) ∙ e) in absurd (named_base m.0.name m.2))
    (λ e. let m = got_map (λ d. optional d) (slice_get table.optional_names e.0) base (sym (slice_get-map (λ d. optional d) table.optional_names e.0) ∙ e.2) in absurd (optional_base m.0 m.2))
    (get_cases (map (λ f. named f.name) table.features) (map (λ d. optional d) table.optional_names) k base h)

-- a package has one base
pub one_base : (t : Tables) (p m n : ℕ) → NodeAt t m p base → NodeAt t n p base → m ≡ n
one_base t p m n a b =
    let x = node_back t m p base a in
    let y = node_back t n p base b in
    omega (arith, x.is, y.is, base_back x.row x.place x.is_place, base_back y.row y.place y.is_place)

-- a place below the number of labels is a node
pub node_below : (t : Tables) (p k : ℕ) (table : PackageTable) → IsPackage t p table → k < length (labels_of table) → first_node t p + k < length (node_places t)
node_below t p k table h l =
    let s = within (labels_of table) k l in
    place_below (node_places t) (first_node t p + k) (p, s.0) (node_there t p k table s.0 h s.1)
  where
    within : {X : Type 0} (xs : List X) (k : ℕ) → k < length xs → (y : X) × (slice_get xs k ≡ Some y)
    within [] k l = absurd (omega (arith, l))
    within (y ∷ ys) zero l = (y, refl)
    within (y ∷ ys) (suc k) l = within ys k (omega (arith, l))

same_table : (t : Tables) (p : ℕ) (a b : PackageTable) → IsPackage t p a → IsPackage t p b → a ≡ b
same_table t p a b h i = let e : ◌≡◌ {A = Option PackageTable} (Some a) (Some b) = sym h ∙ i in got e
  where
    got : ◌≡◌ {A = Option PackageTable} (Some a) (Some b) → a ≡ b
    got e = cc

module _ (t : Tables) (p : ℕ) (table : PackageTable) (is : IsPackage t p table) where
  -- a node of this package has a place among its labels
  row_back : (n : ℕ) (label : LabelName) → NodeAt t n p label → (k : ℕ) × (n ≡ first_node t p + k) × (slice_get (labels_of table) k ≡ Some label)
  row_back n label h =
      let s = node_back t n p label h in
      let e : s.row ≡ table = same_table t p s.row table s.is_row is in
      (s.place, s.is, subst (λ z. slice_get (labels_of z) s.place ≡ Some label) e s.is_place)

  -- the number of a named feature at a place
  pub named_at : AreTables t → (name : Text) (k m : ℕ) (f : FeatureTable) → slice_get table.features k ≡ Some f → f.name ≡ name → m ≡ first_node t p + (1 + k) → (n : ℕ) → (◌≡◌ {A = Option ℕ} (Some m) (Some n)) ↔ NodeAt t n p (named name)
  named_at tables name k m f there same e n = (
    (λ i.
        let at : NodeAt t (first_node t p + suc k) p (named f.name) = node_there t p (suc k) table (named f.name) is (named_label table k f there) in
        let is_n : first_node t p + suc k ≡ n = let z : m ≡ n = same_some m n i in omega arith in
        subst (λ z. NodeAt t z p (named name)) is_n (subst (λ z. NodeAt t (first_node t p + suc k) p (named z)) same at)),
    (λ i.
        let r = row_back n (named name) i in
        let b = named_back table r.0 name r.2 in
        let name_at : (j : ℕ) (g : FeatureTable) → slice_get table.features j ≡ Some g → g.name ≡ name → slice_get (map (λ f. f.name) table.features) j ≡ Some name = λ j g a s. slice_get-map (λ f. f.name) table.features j ∙ ap (option_map (λ f. f.name)) a ∙ ap Some s in
        let place : b.0 ≡ k = tables.features p table is b.0 k name (name_at b.0 b.2.0 b.2.1 b.2.2) (name_at k f there same) in
        let is_m : m ≡ n = omega (arith, r.1, b.1, place) in
        ap Some is_m),
  )

  -- the number of a named feature found at a place
  pub named_found : AreTables t → (name : Text) (k m : ℕ) → feature_place name table.features ≡ Some k → m ≡ first_node t p + (1 + k) → (n : ℕ) → (◌≡◌ {A = Option ℕ} (Some m) (Some n)) ↔ NodeAt t n p (named name)
  named_found tables name k m h e n =
      let q = position_there (λ f. bytes_eq name f.name) k table.features h in
      named_at tables name k m q.element q.there (sym ((bytes_decides name q.element.name).0 q.passes)) e n

  pub named_missing : (name : Text) → feature_place name table.features ≡ None → (n : ℕ) → (◌≡◌ {A = Option ℕ} None (Some n)) ↔ NodeAt t n p (named name)
  named_missing name h n = (
    (λ i. none_some n i),
    (λ i.
        let r = row_back n (named name) i in
        let b = named_back table r.0 name r.2 in
        absurd (position_missing (λ f. bytes_eq name f.name) b.0 table.features b.2.0 h b.2.1 ((bytes_decides name b.2.0.name).1 (sym b.2.2)))),
  )
    where
      none_some : (n : ℕ) → ◌≡◌ {A = Option ℕ} None (Some n) → NodeAt t n p (named name)
      none_some n e = cc

  -- a package has one node of an optional name
  pub one_optional : AreTables t → (name : Text) (m n : ℕ) → NodeAt t m p (optional name) → NodeAt t n p (optional name) → m ≡ n
  one_optional tables name m n a b =
      let r = row_back m (optional name) a in
      let s = row_back n (optional name) b in
      let i = optional_back table r.0 name r.2 in
      let j = optional_back table s.0 name s.2 in
      omega (arith, r.1, s.1, i.1, j.1, tables.optional_names p table is i.0 j.0 name i.2 j.2)

  -- the number of an optional name found at a place
  pub optional_found : AreTables t → (name : Text) (k m : ℕ) → optional_place name table.optional_names ≡ Some k → m ≡ first_node t p + (1 + length table.features + k) → (n : ℕ) → (◌≡◌ {A = Option ℕ} (Some m) (Some n)) ↔ NodeAt t n p (optional name)
  optional_found tables name k m h e n =
      let q = position_there (bytes_eq name) k table.optional_names h in
      let same : q.element ≡ name = sym ((bytes_decides name q.element).0 q.passes) in
      let there : slice_get table.optional_names k ≡ Some name = q.there ∙ ap Some same in
      let at : NodeAt t m p (optional name) = subst (λ z. NodeAt t z p (optional name)) (omega (arith, e)) (node_there t p (suc (length table.features + k)) table (optional name) is (optional_label table k name there)) in
      (λ i. subst (λ z. NodeAt t z p (optional name)) (same_some m n i) at, λ i. ap Some (one_optional tables name m n at i))

  pub optional_missing : (name : Text) → optional_place name table.optional_names ≡ None → (n : ℕ) → (◌≡◌ {A = Option ℕ} None (Some n)) ↔ NodeAt t n p (optional name)
  optional_missing name h n = (
    (λ i. none_some n i),
    (λ i.
        let r = row_back n (optional name) i in
        let b = optional_back table r.0 name r.2 in
        absurd (position_missing (bytes_eq name) b.0 table.optional_names name h b.2 ((bytes_decides name name).1 refl))),
  )
    where
      none_some : (n : ℕ) → ◌≡◌ {A = Option ℕ} None (Some n) → NodeAt t n p (optional name)
      none_some n e = cc

-- a package has a first node, at its number in the list
pub first_within : (t : Tables) (p : ℕ) (table : PackageTable) (firsts : List ℕ) → firsts ≡ first_nodes t → IsPackage t p table → p < length firsts
first_within t p table firsts e is =
    let l : p < length t.packages = place_below t.packages p table is in
    let same : length (first_nodes t) ≡ length t.packages = length-map-range_with_len (first_node t) 0 (length t.packages) in
    let all : length firsts ≡ length (first_nodes t) = ap length e in
    omega arith

pub first_is : (t : Tables) (p : ℕ) (table : PackageTable) (firsts : List ℕ) → firsts ≡ first_nodes t → IsPackage t p table → slice_index firsts p ≡ first_node t p
first_is t p table firsts e is = ap (λ z. slice_index z p) e ∙ get_or-map-range_with_len (first_node t) 0 (length t.packages) p p 0 (place_below t.packages p table is) (omega arith)

-- the number of a label's node fits if the number of nodes does
pub number_fits : (t : Tables) (p k : ℕ) (table : PackageTable) → length (node_places t) < 2 ^ 64 → IsPackage t p table → k < length (labels_of table) → first_node t p + k < 2 ^ 64
number_fits t p k table few is l = let b = node_below t p k table is l in omega (arith, b, few)

pub base_place : (table : PackageTable) → 0 < length (labels_of table)
base_place table = omega (arith, length_labels table)

pub named_place : (table : PackageTable) (name : Text) (k : ℕ) → feature_place name table.features ≡ Some k → 1 + k < length (labels_of table)
named_place table name k h =
    let q = position_there (λ f. bytes_eq name f.name) k table.features h in
    let l : k < length table.features = place_below table.features k q.element q.there in
    omega (arith, length_labels table)

pub optional_place_below : (table : PackageTable) (name : Text) (features k : ℕ) → features ≡ length table.features → optional_place name table.optional_names ≡ Some k → 1 + features + k < length (labels_of table)
optional_place_below table name features k e h =
    let q = position_there (bytes_eq name) k table.optional_names h in
    let l : k < length table.optional_names = place_below table.optional_names k q.element q.there in
    omega (arith, length_labels table)

-- a place among the labels fits if the number of nodes does
pub place_fits : (t : Tables) (p k : ℕ) (table : PackageTable) → length (node_places t) < 2 ^ 64 → IsPackage t p table → k < length (labels_of table) → k < 2 ^ 64
place_fits t p k table few is l = let b = node_below t p k table is l in omega (arith, b, few)

-- the tables of a package of a known graph
pub package_there : (t g : Tables) (p : ℕ) (table : PackageTable) → g ≡ t → slice_get g.packages p ≡ Some table → IsPackage t p table
package_there t g p table e h = subst (λ z. slice_get z.packages p ≡ Some table) e h

-- the nodes of a package end no later than all nodes
pub labels_total : (t : Tables) (p : ℕ) (table : PackageTable) → length (node_places t) < 2 ^ 64 → IsPackage t p table → first_node t p + length (labels_of table) < 2 ^ 64
labels_total t p table few is =
    let l : length (labels_of table) ≡ 1 + length table.features + length table.optional_names = length_labels table in
    let b = node_below t p (length table.features + length table.optional_names) table is (omega arith) in
    omega (arith, b, few)

pub labels_counted : (table : PackageTable) (features names : ℕ) → features ≡ length table.features → names ≡ length table.optional_names → 1 + features + names ≡ length (labels_of table)
labels_counted table features names f n = omega (arith, length_labels table)

pub feature_below : (table : PackageTable) (k : ℕ) → k < length table.features → 1 + k < length (labels_of table)
feature_below table k l = omega (arith, length_labels table)
