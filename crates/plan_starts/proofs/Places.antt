-- The nodes of places: of a package's number and a label.
use Rattle.std.proofs.Common.{◌≡◌, ℕ, ◌<◌, Bool, true, false, ◌&&◌, List, length, Option, Some, None, refl, ap, sym, ◌∙◌, subst}
use Rattle.std.specs.Prelude.{◌↔◌, ◌==◌, slice_get, position}
use Rattle.std.proofs.lemmas.Bool.{eqb-true, eq-eqb}
use Rattle.std.specs.Option.{option_map}
use Rattle.std.proofs.lemmas.List.{length-map}
use Rattle.std.proofs.lemmas.Option.{slice_get-map}
use Rattle.guppy_packages.specs.Rows.{Text}
use Rattle.guppy_packages.specs.Tables.{PackageTable, Tables, AreTables}
use Rattle.feature_labels.specs.Names.{LabelName}
use Rattle.feature_labels.specs.Orders.{label_eq}
use Rattle.feature_labels.proofs.OrderLemmas.{label_eq-Decides}
use Rattle.feature_core.specs.Built.{NodeNamed}
use Rattle.feature_core.specs.Nodes.{NodeAt, node_packages, node_places}
use Rattle.feature_core.proofs.AddsLemmas.{place_below}
use Rattle.feature_core.proofs.LabelLemmas.{position_there, position_missing}
use Rattle.feature_core.proofs.NameLemmas.{id_at, named_node, node_name}
use Rattle.feature_core.proofs.Places.{got_same, node_back}
use Rattle.plan_starts.specs.step_visits.Visits.{is_place, node_at}

both : (a b : Bool) → (a && b) ≡ true → (a ≡ true) × (b ≡ true)
both true b h = (refl, h)
both false b h = cc

pair : (a b : ℕ × LabelName) → a.0 ≡ b.0 → a.1 ≡ b.1 → a ≡ b
pair a b p q = λ i. (p i, q i)

place_same : (a b : ℕ × LabelName) → is_place a b ≡ true → a ≡ b
place_same a b h =
    let parts = both (a.0 == b.0) (label_eq a.1 b.1) h in
    pair a b (eqb-true a.0 b.0 parts.0) ((label_eq-Decides a.1 b.1).0 parts.1)

place_is : (a : ℕ × LabelName) → is_place a a ≡ true
place_is a =
    let number : (a.0 == a.0) ≡ true = eq-eqb a.0 a.0 refl in
    let label : label_eq a.1 a.1 ≡ true = (label_eq-Decides a.1 a.1).1 refl in
    ap (λ z. z && label_eq a.1 a.1) number ∙ label

-- what finds each node of a place is the place's node
found_at : (places : List (ℕ × LabelName)) (x : ℕ × LabelName) (result found : Option ℕ) → position (is_place x) places ≡ found → ((n : ℕ) → (result ≡ Some n) ↔ (slice_get places n ≡ Some x)) → result ≡ found
found_at places x result (Some n) e finds =
    let q = position_there (is_place x) n places e in
    (finds n).1 (q.there ∙ ap Some (sym (place_same x q.element q.passes)))
found_at places x None None e finds = refl
found_at places x (Some n) None e finds = absurd (position_missing (is_place x) n places x e ((finds n).0 refl) (place_is x))

pub node_found : (t : Tables) (k : ℕ) (label : LabelName) (result : Option ℕ) → ((n : ℕ) → (result ≡ Some n) ↔ NodeAt t n k label) → result ≡ node_at t k label
node_found t k label result finds = found_at (node_places t) (k, label) result (node_at t k label) refl finds

-- a node by its package's id is the node by the package's number
pub named_found : (t : Tables) (k : ℕ) (label : LabelName) (table : PackageTable) (id : Text) (P : ℕ → Type 0) → AreTables t → slice_get t.packages k ≡ Some table → table.id ≡ id → ((n : ℕ) → P n ↔ NodeNamed t n (id, label)) → (n : ℕ) → P n ↔ NodeAt t n k label
named_found t k label table id P tables is same finds n = (
  (λ h.
      let m = named_node t n (id, label) ((finds n).0 h) in
      let place : m.place ≡ k = tables.ids m.place k id (id_at t m.place m.table id m.is_package m.id) (id_at t k table id is same) in
      subst (λ z. NodeAt t n z label) place m.node),
  (λ h. (finds n).1 (subst (λ z. NodeNamed t n (z, label)) same (node_name t n k label table is h))),
)

-- packages that aren't there have no nodes
pub none_past : (t : Tables) (k : ℕ) (label : LabelName) → (k < length t.packages → ⊥) → None ≡ node_at t k label
none_past t k label past = node_found t k label None (λ n. (none_some n, λ h. let s = node_back t n k label h in absurd (past (place_below t.packages k s.row s.is_row))))
  where
    none_some : (n : ℕ) → ◌≡◌ {A = Option ℕ} None (Some n) → NodeAt t n k label
    none_some n e = cc

-- the node of a place is one of the nodes
pub node_within : (t : Tables) (packages : List ℕ) (k n : ℕ) (label : LabelName) → packages ≡ node_packages t → Some n ≡ node_at t k label → n < length packages
node_within t packages k n label same e =
    let q = position_there (is_place (k, label)) n (node_places t) (sym e) in
    let below : n < length (node_places t) = place_below (node_places t) n q.element q.there in
    let long : length packages ≡ length (node_places t) = ap length same ∙ length-map (node_places t) (λ x. x.0) in
    subst (λ z. n < z) (sym long) below

-- a node by the number of its package and its name
pub node_placed : (t : Tables) (packages : List ℕ) (n k : ℕ) (name : Text × LabelName) → packages ≡ node_packages t → slice_get packages n ≡ Some k → NodeNamed t n name → NodeAt t n k name.1
node_placed t packages n k name same is named =
    let m = named_node t n name named in
    let there : slice_get (node_packages t) n ≡ Some m.place = slice_get-map (λ x. x.0) (node_places t) n ∙ ap (option_map (λ x. x.0)) m.node in
    let number : m.place ≡ k = got_same m.place k (sym there ∙ subst (λ z. slice_get z n ≡ Some k) same is) in
    subst (λ z. NodeAt t n z name.1) number m.node

-- the place of a node that was found
pub node_back_at : (t : Tables) (k n : ℕ) (label : LabelName) → node_at t k label ≡ Some n → NodeAt t n k label
node_back_at t k n label h =
    let q = position_there (is_place (k, label)) n (node_places t) h in
    q.there ∙ ap Some (sym (place_same (k, label) q.element q.passes))
