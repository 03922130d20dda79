-- Look-ups of packages and of their labels.
use Rattle.std.proofs.Common.{◌≡◌, ℕ, suc, ◌⊎◌, inl, inr, ⊎_elim, List, ◌++◌, map, arith, Some, None, refl, ap, sym, ◌∙◌, subst, get_or}
use Rattle.std.specs.Prelude.{Contains, slice_get}
use Rattle.std.specs.Option.{option_map}
use Rattle.std.specs.Str.{bytes_eq}
use Rattle.std.proofs.lemmas.List.Elements.{Contains-append_left, Contains-append_right, Contains-append_cases}
use Rattle.std.specs.Cmp.Lexicographic.{bytes_decides}
use Rattle.std.proofs.lemmas.Option.{slice_get-map, get_or_from_slice_get}
use Rattle.guppy_packages.specs.Rows.{Text}
use Rattle.guppy_packages.specs.Tables.{FeatureTable, PackageTable, Tables, AreTables, package_place, feature_place, optional_place}
use Rattle.feature_labels.specs.Names.{LabelName}
use Rattle.feature_labels.specs.Names.LabelName.{base, named, optional}
use Rattle.feature_links.specs.Links.{IsPackage}
use Rattle.feature_core.specs.Nodes.{labels_of}
use Rattle.feature_core.specs.Built.{NamesAreLabels}
use Rattle.feature_graph.proofs.ListLemmas.{place_of_element, element_at_place, element_cases, position_there, position_missing, from_map, into_map, got_map, got_same}
use Rattle.feature_graph.specs.Names.{HasFeature, HasPackage}

-- the labels of a package are the base, its named features and its optional names
label_cases : (table : PackageTable) (label : LabelName) → Contains (labels_of table) label → (label ≡ base) ⊎ (((f : FeatureTable) × Contains table.features f × (named f.name ≡ label)) ⊎ ((d : Text) × Contains table.optional_names d × (optional d ≡ label)))
label_cases table label h =
    ⊎_elim
    (λ e. inl (sym e))
    (λ i. ⊎_elim
    (λ j. inr (inl (from_map (λ (f : FeatureTable). named f.name) table.features label j)))
    (λ j. inr (inr (from_map (λ (d : Text). optional d) table.optional_names label j)))
    (Contains-append_cases (map (λ f. named f.name) table.features) (map (λ d. optional d) table.optional_names) label i))
    (element_cases base (map (λ f. named f.name) table.features ++ map (λ d. optional d) table.optional_names) label h)

pub has_base : (table : PackageTable) → Contains (labels_of table) base
has_base table = element_at_place (labels_of table) 0 base refl

later_label : (table : PackageTable) (label : LabelName) → Contains (map (λ f. named f.name) table.features ++ map (λ d. optional d) table.optional_names) label → Contains (labels_of table) label
later_label table label h = let within = h.1 in (suc h.0, omega arith, h.2)

pub has_named : (table : PackageTable) (name : Text) (k : ℕ) → feature_place name table.features ≡ Some k → Contains (labels_of table) (named name)
has_named table name k h =
    let q = position_there (λ f. bytes_eq name f.name) k table.features h in
    let same : q.element.name ≡ name = sym ((bytes_decides name q.element.name).0 q.passes) in
    let there = into_map (λ (f : FeatureTable). named f.name) table.features q.element (element_at_place table.features k q.element q.there) in
    subst (λ z. Contains (labels_of table) (named z)) same (later_label table (named q.element.name) (Contains-append_left (map (λ f. named f.name) table.features) (map (λ d. optional d) table.optional_names) (named q.element.name) there))

pub has_no_named : (table : PackageTable) (name : Text) → feature_place name table.features ≡ None → Contains (labels_of table) (named name) → ⊥
has_no_named table name h c =
    ⊎_elim
    (λ e. cc)
    (λ i. ⊎_elim
    (λ j.
    let same = j.2 in
    let name_is : j.0.name ≡ name = cc in
    let k = place_of_element table.features j.0 j.1 in
    position_missing (λ f. bytes_eq name f.name) k.0 table.features j.0 h k.1 ((bytes_decides name j.0.name).1 (sym name_is)))
    (λ j. let same = j.2 in cc)
    i)
    (label_cases table (named name) c)

pub has_optional : (table : PackageTable) (name : Text) (k : ℕ) → optional_place name table.optional_names ≡ Some k → Contains (labels_of table) (optional name)
has_optional table name k h =
    let q = position_there (bytes_eq name) k table.optional_names h in
    let same : q.element ≡ name = sym ((bytes_decides name q.element).0 q.passes) in
    let there = into_map (λ (d : Text). optional d) table.optional_names q.element (element_at_place table.optional_names k q.element q.there) in
    subst (λ z. Contains (labels_of table) (optional z)) same (later_label table (optional q.element) (Contains-append_right (map (λ f. named f.name) table.features) (map (λ d. optional d) table.optional_names) (optional q.element) there))

pub has_no_optional : (table : PackageTable) (name : Text) → optional_place name table.optional_names ≡ None → Contains (labels_of table) (optional name) → ⊥
has_no_optional table name h c =
    ⊎_elim
    (λ e. cc)
    (λ i. ⊎_elim
    (λ j. let same = j.2 in cc)
    (λ j.
    let same = j.2 in
    let name_is : j.0 ≡ name = cc in
    let k = place_of_element table.optional_names j.0 j.1 in
    position_missing (bytes_eq name) k.0 table.optional_names j.0 h k.1 ((bytes_decides name j.0).1 (sym name_is)))
    i)
    (label_cases table (optional name) c)

-- the feature at the found index has the name
pub read_named : {X : Type 0} (f : X → FeatureTable) (table : PackageTable) (list : List X) (name : Text) (k : ℕ) (x d : X) → map f list ≡ table.features → feature_place name table.features ≡ Some k → x ≡ get_or list k d → (f x).name ≡ name
read_named f table list name k x d same h is =
    let q = position_there (λ f. bytes_eq name f.name) k table.features h in
    let there : slice_get (map f list) k ≡ Some q.element = subst (λ z. slice_get z k ≡ Some q.element) (sym same) q.there in
    let m = got_map f (slice_get list k) q.element (sym (slice_get-map f list k) ∙ there) in
    let same_x : x ≡ m.0 = is ∙ get_or_from_slice_get list k m.0 d m.1 in
    ap (λ z. (f z).name) same_x ∙ ap (λ z. z.name) m.2 ∙ sym ((bytes_decides name q.element.name).0 q.passes)

pub read_optional : {X : Type 0} (f : X → Text) (table : PackageTable) (list : List X) (name : Text) (k : ℕ) (x d : X) → map f list ≡ table.optional_names → optional_place name table.optional_names ≡ Some k → x ≡ get_or list k d → f x ≡ name
read_optional f table list name k x d same h is =
    let q = position_there (bytes_eq name) k table.optional_names h in
    let there : slice_get (map f list) k ≡ Some q.element = subst (λ z. slice_get z k ≡ Some q.element) (sym same) q.there in
    let m = got_map f (slice_get list k) q.element (sym (slice_get-map f list k) ∙ there) in
    let same_x : x ≡ m.0 = is ∙ get_or_from_slice_get list k m.0 d m.1 in
    ap f same_x ∙ m.2 ∙ sym ((bytes_decides name q.element).0 q.passes)

pub no_package : (t : Tables) (id : Text) → package_place id t.packages ≡ None → HasPackage t id → ⊥
no_package t id h (table, c, same) =
    let k = place_of_element t.packages table c in
    position_missing (λ p. bytes_eq id p.id) k.0 t.packages table h k.1 ((bytes_decides id table.id).1 (sym same))

-- if an index was found, the graph has the package
pub some_package : (t : Tables) (id told : Text) (p : ℕ) → told ≡ id → package_place told t.packages ≡ Some p → HasPackage t id
some_package t id told p same h =
    let q = position_there (λ z. bytes_eq told z.id) p t.packages h in
    (q.element, element_at_place t.packages p q.element q.there, sym ((bytes_decides told q.element.id).0 q.passes) ∙ same)

-- the package at the found index has the id
pub id_found : (t : Tables) (id : Text) (p : ℕ) (table : PackageTable) → package_place id t.packages ≡ Some p → IsPackage t p table → table.id ≡ id
id_found t id p table h is =
    let q = position_there (λ z. bytes_eq id z.id) p t.packages h in
    let there = q.there in
    let same : table ≡ q.element = got_same table q.element (sym is ∙ q.there) in
    ap (λ z. z.id) same ∙ sym ((bytes_decides id q.element.id).0 q.passes)

module _ (t : Tables) (name : Text × LabelName) (told : Text) (said : LabelName) (same_id : told ≡ name.0) (same_label : said ≡ name.1) where
  whole : (told, said) ≡ name
  whole = (λ i. (same_id i, same_label i))

  pub feature_known : (p : ℕ) (table : PackageTable) → NamesAreLabels t → package_place told t.packages ≡ Some p → IsPackage t p table → Contains (labels_of table) said → HasFeature t name
  feature_known p table names h is c =
      let known : HasFeature t (told, said) = (names (told, said)).1 (table, element_at_place t.packages p table is, id_found t told p table h is, c) in
      subst (HasFeature t) whole known

  pub feature_unknown : (p : ℕ) (table : PackageTable) → AreTables t → NamesAreLabels t → package_place told t.packages ≡ Some p → IsPackage t p table → (Contains (labels_of table) said → ⊥) → HasFeature t name → ⊥
  feature_unknown p table tables names h is no_label known =
      let known' : HasFeature t (told, said) = subst (HasFeature t) (sym whole) known in
      let x = (names (told, said)).0 known' in
      let k = place_of_element t.packages x.0 x.1 in
      let place : k.0 ≡ p = tables.ids k.0 p told (id_at k.0 x.0 k.1 x.2) (id_at p table is (id_found t told p table h is)) in
      let same : x.0 ≡ table = got_same x.0 table (sym k.1 ∙ ap (slice_get t.packages) place ∙ is) in
      no_label (subst (λ z. Contains (labels_of z) said) same x.3)
    where
      id_at : (k : ℕ) (row : PackageTable) → slice_get t.packages k ≡ Some row → row.id ≡ told → slice_get (map (λ q. q.id) t.packages) k ≡ Some told
      id_at k row at e = slice_get-map (λ q. q.id) t.packages k ∙ ap (option_map (λ q. q.id)) at ∙ ap Some e

  pub package_unknown : NamesAreLabels t → package_place told t.packages ≡ None → HasFeature t name → ⊥
  package_unknown names h known =
      let known' : HasFeature t (told, said) = subst (HasFeature t) (sym whole) known in
      let x = (names (told, said)).0 known' in
      no_package t told h (x.0, x.1, x.2)
