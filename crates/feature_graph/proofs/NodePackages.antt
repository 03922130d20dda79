-- The package of a node, from the node's name.
use Rattle.std.proofs.Common.{◌≡◌, ℕ, zero, suc, ◌+◌, ◌⊎◌, inl, inr, ⊎_elim, List, [], ◌∷◌, ◌++◌, Option, Some, map, refl, ap, sym, ◌∙◌, subst, arith}
use Rattle.std.specs.Prelude.{slice_get, flat_map}
use Rattle.std.proofs.lemmas.List.{map-append}
use Rattle.std.proofs.lemmas.Option.{slice_get-map}
use Rattle.std.specs.Option.{option_map}
use Rattle.guppy_packages.specs.Rows.{Text}
use Rattle.guppy_packages.specs.Tables.{PackageTable, Tables}
use Rattle.feature_labels.specs.Names.{LabelName}
use Rattle.feature_core.specs.Built.{NodeNamed}
use Rattle.feature_core.specs.Nodes.{NodeAt, labels_of, spread, node_packages, node_places}

abbrev row_of : ℕ → List LabelName → List (ℕ × LabelName)
row_of q labels = map (λ y. (q, y)) labels

abbrev names_of : Text → List LabelName → List (Text × LabelName)
names_of id labels = map (λ l. (id, l)) labels

in_row : (q p : ℕ) (id : Text) (labels : List LabelName) (rest : List ℕ) (names : List (Text × LabelName)) (n : ℕ) (name : Text × LabelName)
    → slice_get (map (λ x. x.0) (row_of q labels) ++ rest) n ≡ Some p → slice_get (names_of id labels ++ names) n ≡ Some name
    → ((p ≡ q) × (id ≡ name.0)) ⊎ ((m : ℕ) × (slice_get rest m ≡ Some p) × (slice_get names m ≡ Some name))
in_row q p id [] rest names n name h i = inr (n, h, i)
in_row q p id (l ∷ ls) rest names zero name h i =
    let number : p ≡ q = cc in
    let same : ◌≡◌ {A = Text × LabelName} (id, l) name = cc in
    inl (number, ap (λ z. z.0) same)
in_row q p id (l ∷ ls) rest names (suc n) name h i = in_row q p id ls rest names n name h i

-- package `p` has this id
pub record IsOf (packages : List PackageTable) (p : ℕ) (id : Text) : Type 0 where
  pub table : PackageTable
  pub is : slice_get packages p ≡ Some table
  pub named : table.id ≡ id

of_package : (q : ℕ) (packages : List PackageTable) (n p : ℕ) (name : Text × LabelName) → slice_get (map (λ x. x.0) (spread labels_of q packages)) n ≡ Some p
    → slice_get (flat_map (λ t. names_of t.id (labels_of t)) packages) n ≡ Some name → (k : ℕ) × ((p ≡ q + k) × IsOf packages k name.0)
of_package q [] n p name h i = cc
of_package q (t ∷ ts) n p name h i = ⊎_elim
    (λ e. (0, (omega (arith, e.0), record { table = t; is = refl; named = e.1 })))
    (λ e.
    let r = of_package (q + 1) ts e.0 p name e.1 e.2 in
    (suc r.0, (omega (arith, r.1.0), record { table = r.1.1.table; is = r.1.1.is; named = r.1.1.named })))
    (in_row q p t.id (labels_of t) (map (λ x. x.0) (spread labels_of (q + 1) ts)) (flat_map (λ t. names_of t.id (labels_of t)) ts) n name
    (subst (λ z. slice_get z n ≡ Some p) (map-append (λ x. x.0) (row_of q (labels_of t)) (spread labels_of (q + 1) ts)) h) i)

-- a node's name contains the id of the node's package
pub node_package : (t : Tables) (n p : ℕ) (name : Text × LabelName) → slice_get (node_packages t) n ≡ Some p → NodeNamed t n name → IsOf t.packages p name.0
node_package t n p name h i =
    let r = of_package 0 t.packages n p name h i in
    let same : r.0 ≡ p = omega (arith, r.1.0) in
    subst (λ k. IsOf t.packages k name.0) same r.1.1

in_place : (q : ℕ) (id : Text) (labels : List LabelName) (rest : List (ℕ × LabelName)) (names : List (Text × LabelName)) (n : ℕ) (name : Text × LabelName)
    → slice_get (names_of id labels ++ names) n ≡ Some name
    → (slice_get (row_of q labels ++ rest) n ≡ Some (q, name.1)) ⊎ ((m : ℕ) × (slice_get (row_of q labels ++ rest) n ≡ slice_get rest m) × (slice_get names m ≡ Some name))
in_place q id [] rest names n name h = inr (n, refl, h)
in_place q id (l ∷ ls) rest names zero name h =
    let same : ◌≡◌ {A = Text × LabelName} (id, l) name = cc in
    inl (ap (λ z. Some (q, z.1)) same)
in_place q id (l ∷ ls) rest names (suc n) name h = in_place q id ls rest names n name h

label_there : (q : ℕ) (packages : List PackageTable) (n : ℕ) (name : Text × LabelName) → slice_get (flat_map (λ t. names_of t.id (labels_of t)) packages) n ≡ Some name
    → (p : ℕ) × (slice_get (spread labels_of q packages) n ≡ Some (p, name.1))
label_there q [] n name h = cc
label_there q (t ∷ ts) n name h = ⊎_elim
    (λ e. (q, e))
    (λ e. let r = label_there (q + 1) ts e.0 name e.2 in (r.0, e.1 ∙ r.1))
    (in_place q t.id (labels_of t) (spread labels_of (q + 1) ts) (flat_map (λ t. names_of t.id (labels_of t)) ts) n name h)

-- a node's label in its name is its label in its package
pub label_at_node : (t : Tables) (n p : ℕ) (name : Text × LabelName) → slice_get (node_packages t) n ≡ Some p → NodeNamed t n name → NodeAt t n p name.1
label_at_node t n p name of named =
    let r = label_there 0 t.packages n name named in
    let both : ◌≡◌ {A = Option ℕ} (Some r.0) (Some p) = sym (slice_get-map (λ x. x.0) (node_places t) n ∙ ap (option_map (λ x. x.0)) r.1) ∙ of in
    let same : r.0 ≡ p = cc in
    subst (λ z. NodeAt t n z name.1) same r.1
