-- The names of nodes, and their places.
use Rattle.std.proofs.Common.{◌≡◌, ℕ, zero, suc, ◌+◌, ⊎_elim, List, ◌∷◌, [], length, map, take, Option, Some, None, refl, ap, sym, ◌∙◌, subst, arith, length-append}
use Rattle.std.specs.Prelude.{slice_get, flat_map, ◌↔◌}
use Rattle.std.specs.Option.{option_map}
use Rattle.std.specs.Str.{bytes_eq}
use Rattle.std.specs.Cmp.Lexicographic.{bytes_decides}
use Rattle.std.proofs.lemmas.List.{length-map}
use Rattle.std.proofs.lemmas.Option.{slice_get-map}
use Rattle.feature_edges.specs.guppy_packages.Rows.{Text}
use Rattle.feature_edges.specs.guppy_packages.Tables.{PackageTable, Tables, AreTables, package_place}
use Rattle.feature_edges.specs.feature_labels.Names.{LabelName}
use Rattle.feature_edges.specs.feature_labels.Names.LabelName.{base}
use Rattle.feature_edges.specs.Nodes.{NodeAt, labels_of, first_node}
use Rattle.feature_edges.specs.feature_links.Links.{IsPackage}
use Rattle.feature_core.specs.Built.{NodeNamed}
use Rattle.feature_edges.proofs.Places.{IsSpread, node_back, there, get_left, get_right, get_cases, got_map, got_same}
use Rattle.feature_edges.proofs.PartLemmas.{base_back}
use Rattle.feature_edges.proofs.LabelLemmas.{position_there, position_missing}

module _ {A B C : Type 0} (f : A → List B) (g : A → B → C) where
  abbrev pub all_of : List A → List C
  all_of xs = flat_map (λ x. map (g x) (f x)) xs

  -- an element of a row, and its place among the elements of all rows
  pub named_there : (p n : ℕ) (xs : List A) (y : B) → (h : IsSpread f xs n p y) → slice_get (all_of xs) n ≡ Some (g h.row y)
  named_there p n [] y h = let e = h.is_row in cc
  named_there zero n (x ∷ xs) y h =
      let same : x ≡ h.row = got_same x h.row h.is_row in
      let place : h.place ≡ n = omega (arith, h.is) in
      let at : slice_get (f x) n ≡ Some y = subst (λ z. slice_get (f x) z ≡ Some y) place (subst (λ z. slice_get (f z) h.place ≡ Some y) (sym same) h.is_place) in
      get_left (map (g x) (f x)) (all_of xs) n (g h.row y) (slice_get-map (g x) (f x) n ∙ ap (option_map (g x)) at ∙ ap (λ z. Some (g z y)) same)
  named_there (suc p) n (x ∷ xs) y h =
      let m : ℕ = length (flat_map f (take p xs)) + h.place in
      let long : length (map (g x) (f x)) ≡ length (f x) = length-map (f x) (g x) in
      get_right (map (g x) (f x)) (all_of xs) n m (omega (arith, long, h.is, length-append (f x) (flat_map f (take p xs))))
      ∙ named_there p m xs y (record { row = h.row; is_row = h.is_row; place = h.place; is_place = h.is_place; is = refl })

  pub named_back : (n : ℕ) (xs : List A) (z : C) → slice_get (all_of xs) n ≡ Some z → (p : ℕ) × ((y : B) × ((h : IsSpread f xs n p y) × (g h.row y ≡ z)))
  named_back n [] z h = cc
  named_back n (x ∷ xs) z h = ⊎_elim
      (λ e.
      let m = got_map (g x) (slice_get (f x) n) z (sym (slice_get-map (g x) (f x) n) ∙ e) in
      (0, (m.0, (record { row = x; is_row = refl; place = n; is_place = m.1; is = omega arith }, m.2))))
      (λ e.
      let r = named_back e.0 xs z e.2 in
      let h = r.1.1.0 in
      let long : length (map (g x) (f x)) ≡ length (f x) = length-map (f x) (g x) in
      (suc r.0, (r.1.0, (record { row = h.row; is_row = h.is_row; place = h.place; is_place = h.is_place; is = omega (arith, h.is, e.1, long, length-append (f x) (flat_map f (take r.0 xs))) }, r.1.1.1))))
      (get_cases (map (g x) (f x)) (all_of xs) n z h)

abbrev pub name_of : PackageTable → LabelName → Text × LabelName
name_of table label = (table.id, label)

-- the name of a node is its package's id and its label
pub node_name : (t : Tables) (n p : ℕ) (label : LabelName) (table : PackageTable) → IsPackage t p table → NodeAt t n p label → NodeNamed t n (table.id, label)
node_name t n p label table is h =
    let s = node_back t n p label h in
    let same : s.row ≡ table = got_same s.row table (sym s.is_row ∙ is) in
    named_there labels_of name_of p n t.packages label s ∙ ap (λ z. Some (z.id, label)) same

pub record IsNamedNode (t : Tables) (n : ℕ) (name : Text × LabelName) : Type 0 where
  pub place : ℕ
  pub table : PackageTable
  pub is_package : IsPackage t place table
  pub id : table.id ≡ name.0
  pub node : NodeAt t n place name.1

-- a named node has a package of that id
pub named_node : (t : Tables) (n : ℕ) (name : Text × LabelName) → NodeNamed t n name → IsNamedNode t n name
named_node t n name h =
    let b = named_back labels_of name_of n t.packages name h in
    let s = b.1.1.0 in
    let e : (s.row.id, b.1.0) ≡ name = b.1.1.1 in
    let label : b.1.0 ≡ name.1 = ap (λ z. z.1) e in
    let at : NodeAt t n b.0 b.1.0 = there labels_of 0 b.0 n t.packages b.1.0 s ∙ ap (λ z. Some (z, b.1.0)) (omega arith) in
    record { place = b.0; table = s.row; is_package = s.is_row; id = ap (λ z. z.0) e; node = subst (λ z. NodeAt t n b.0 z) label at }

pub id_at : (t : Tables) (p : ℕ) (table : PackageTable) (id : Text) → IsPackage t p table → table.id ≡ id → slice_get (map (λ q. q.id) t.packages) p ≡ Some id
id_at t p table id is e = slice_get-map (λ q. q.id) t.packages p ∙ ap (option_map (λ q. q.id)) is ∙ ap Some e

-- if a package has the id, its nodes are those with that id in their names
pub found_name : (t : Tables) (id : Text) (p n : ℕ) (label : LabelName) → AreTables t → package_place id t.packages ≡ Some p → NodeAt t n p label ↔ NodeNamed t n (id, label)
found_name t id p n label tables h =
    let q = position_there (λ z. bytes_eq id z.id) p t.packages h in
    let same : q.element.id ≡ id = sym ((bytes_decides id q.element.id).0 q.passes) in (
      (λ i. node_name t n p label q.element q.there i ∙ ap (λ z. Some (z, label)) same),
      (λ i.
          let m = named_node t n (id, label) i in
          let place : m.place ≡ p = tables.ids m.place p id (id_at t m.place m.table id m.is_package m.id) (id_at t p q.element id q.there same) in
          subst (λ z. NodeAt t n z label) place m.node),
    )

-- if no package has the id, no node has the name
pub missing_name : (t : Tables) (id : Text) (n : ℕ) (label : LabelName) → package_place id t.packages ≡ None → NodeNamed t n (id, label) → ⊥
missing_name t id n label h i =
    let m = named_node t n (id, label) i in
    position_missing (λ z. bytes_eq id z.id) m.place t.packages m.table h m.is_package ((bytes_decides id m.table.id).1 (sym m.id))

-- the base, as the one node of its label
pub base_found : (t : Tables) (p m : ℕ) → m ≡ first_node t p → NodeAt t m p base → (n : ℕ) → (◌≡◌ {A = Option ℕ} (Some m) (Some n)) ↔ NodeAt t n p base
base_found t p m e at n = (
  (λ i. let same : m ≡ n = cc in subst (λ z. NodeAt t z p base) same at),
  (λ i. ap Some (e ∙ sym (base_back t n p i))),
)

-- the number of a label is the number of its name
pub numbered_name : (t g : Tables) (id told : Text) (p n : ℕ) (label said : LabelName) (P : Type 0) → g ≡ t → told ≡ id → said ≡ label → AreTables t → package_place told t.packages ≡ Some p → (P ↔ NodeAt g n p said) → (P ↔ NodeNamed t n (id, label))
numbered_name t g id told p n label said P same_graph same_id same_label tables h both =
    let f = found_name t told p n said tables h in
    let name : (told, said) ≡ (id, label) = cc in (
      (λ i. subst (λ z. NodeNamed t n z) name (f.0 (subst (λ z. NodeAt z n p said) same_graph (both.0 i)))),
      (λ i. both.1 (subst (λ z. NodeAt z n p said) (sym same_graph) (f.1 (subst (λ z. NodeNamed t n z) (sym name) i)))),
    )

-- if no package has the id, there is no number
pub no_number : (t : Tables) (id told : Text) (n : ℕ) (label : LabelName) → told ≡ id → package_place told t.packages ≡ None → (◌≡◌ {A = Option ℕ} None (Some n)) ↔ NodeNamed t n (id, label)
no_number t id told n label same h = (
  (λ i. none_some i),
  (λ i. absurd (missing_name t told n label h (subst (λ z. NodeNamed t n (z, label)) (sym same) i))),
)
  where
    none_some : ◌≡◌ {A = Option ℕ} None (Some n) → NodeNamed t n (id, label)
    none_some e = cc
