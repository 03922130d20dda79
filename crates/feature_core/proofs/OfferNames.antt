-- Names of offers and of nodes.
use Rattle.std.proofs.Common.{◌≡◌, ℕ, ◌+◌, List, Option, Some, None, refl, ap, sym, ◌∙◌, subst}
use Rattle.std.specs.Prelude.{slice_get, IsTrue}
use Rattle.std.proofs.Math.Logic.{∥∥₁_elim}
use Rattle.feature_edges.specs.guppy_packages.Rows.{Text}
use Rattle.feature_edges.specs.guppy_packages.Tables.{Tables, AreTables, feature_place}
use Rattle.feature_edges.specs.guppy_packages.declared.direction.DependencyDirection.{DependencyDirection}
use Rattle.feature_edges.specs.feature_labels.Names.{LabelName}
use Rattle.feature_edges.specs.feature_labels.Names.LabelName.{base, named, optional}
use Rattle.feature_edges.specs.feature_labels.declared.link_declarations.LinkDeclarations.TheVariants as covered
use Rattle.walk_engine.specs.declared.walks.Half.{Half}
use Rattle.walk_engine.specs.declared.walks.Half.TheVariants.{Full, Required, Optional}
use Rattle.walk_engine.specs.Walks.{Way, has_half}
use Rattle.feature_core.specs.Built.{Built, IsBuilt, NodeNamed, NamesAreLabels}
use Rattle.feature_edges.specs.Candidates.{Edge, feature_to_base, named_feature, dep_colon, slash_full, slash_optional, slash_weak, section}
use Rattle.feature_edges.specs.feature_links.Facts.{WeakFacts, EdgeFacts, base_edge, feature_edge, colon_edge, strong_edge, weak_edge, section_edge, link_at}
use Rattle.feature_edges.specs.Edges.{facts_of, weak_facts}
use Rattle.feature_edges.specs.feature_links.Links.{LinkFacts}
use Rattle.feature_edges.specs.Nodes.{NodeAt, labels_of, first_node}
use Rattle.feature_core.specs.Offers.{content_of, IsOffer, HaveOneName}
use Rattle.feature_core.specs.Ways.{asked}
use Rattle.feature_edges.proofs.AddsLemmas.{element_at_place, place_of_element}
use Rattle.feature_core.proofs.Determined.{one_node}
use Rattle.feature_edges.proofs.LabelLemmas.{one_base, named_found, named_missing}
use Rattle.feature_core.proofs.LinkNumbers.{half_declares}
use Rattle.feature_core.proofs.NameLemmas.{named_node, node_name, id_at}
use Rattle.feature_core.proofs.OfferLemmas.{numbers, says, edge_once, way_edge}
use Rattle.feature_edges.proofs.Places.{IsSpread, node_there, node_back, got_same}

-- a named feature of a package has one node
one_feature : (t : Tables) → AreTables t → (p m n : ℕ) (name : Text) → NodeAt t m p (named name) → NodeAt t n p (named name) → m ≡ n
one_feature t tables p m n name a b = go (feature_place name s.row.features) refl
  where
    s : IsSpread labels_of t.packages m p (named name)
    s = node_back t m p (named name) a

    none_some : (k : ℕ) → ◌≡◌ {A = Option ℕ} None (Some k) → ⊥
    none_some k e = cc

    go : (o : Option ℕ) → feature_place name s.row.features ≡ o → m ≡ n
    go None e = absurd (none_some m ((named_missing t p s.row s.is_row name e m).1 a))
    go (Some k) e =
        let there : ℕ = first_node t p + (1 + k) in
        let at_m : there ≡ m = got_same there m ((named_found t p s.row s.is_row tables name k there e refl m).1 a) in
        let at_n : there ≡ n = got_same there n ((named_found t p s.row s.is_row tables name k there e refl n).1 b) in
        sym at_m ∙ at_n

one_label : (t : Tables) → AreTables t → (p m n : ℕ) (l : LabelName) → NodeAt t m p l → NodeAt t n p l → m ≡ n
one_label t tables p m n base a b = one_base t p m n a b
one_label t tables p m n (named name) a b = one_feature t tables p m n name a b
one_label t tables p m n (optional name) a b = one_node t tables p m n name a b

-- a name has one node
pub one_named : (t : Tables) → AreTables t → (name : Text × LabelName) (m n : ℕ) → NodeNamed t m name → NodeNamed t n name → m ≡ n
one_named t tables name m n a b =
    let x = named_node t m name a in
    let y = named_node t n name b in
    let place : x.place ≡ y.place = tables.ids x.place y.place name.0 (id_at t x.place x.table name.0 x.is_package x.id) (id_at t y.place y.table name.0 y.is_package y.id) in
    one_label t tables y.place m n name.1 (subst (λ z. NodeAt t m z name.1) place x.node) y.node

-- the names of nodes are the labels of packages
pub names_are_labels : (t : Tables) → NamesAreLabels t
names_are_labels t name = (
  (λ h.
      let x = named_node t h.0 name h.1 in
      let s = node_back t h.0 x.place name.1 x.node in
      let same : s.row ≡ x.table = got_same s.row x.table (sym s.is_row ∙ x.is_package) in
      (s.row, element_at_place t.packages x.place s.row s.is_row, ap (λ z. z.id) same ∙ x.id, element_at_place (labels_of s.row) s.place name.1 s.is_place)),
  (λ h.
      let table = h.0 in
      let p = place_of_element t.packages table h.1 in
      let k = place_of_element (labels_of table) name.1 h.3 in
      let n : ℕ = first_node t p.0 + k.0 in
      let at : NodeAt t n p.0 name.1 = node_there t p.0 k.0 table name.1 p.1 k.1 in
      let named_so : NodeNamed t n (table.id, name.1) = node_name t n p.0 name.1 table p.1 at in
      (n, subst (λ z. NodeNamed t n (z, name.1)) h.2 named_so)),
)

-- the half over the required declarations covers exactly these, and the other half the optional ones
required_declares : (t : Tables) (weak : List ℕ) (e : Edge) (m : LinkFacts) (halves : WeakFacts) (l : LinkFacts) → weak_edge m halves ≡ facts_of t weak e → halves.required ≡ Some l → l.declarations ≡ covered.Required
required_declares t weak feature_to_base m halves l h is = cc
required_declares t weak named_feature m halves l h is = cc
required_declares t weak (dep_colon o) m halves l h is = cc
required_declares t weak (slash_full o) m halves l h is = cc
required_declares t weak (slash_optional o) m halves l h is = cc
required_declares t weak (slash_weak k o) m halves l h is =
    let same : halves ≡ weak_facts t weak k = cc in
    half_declares t covered.Required k l (ap (λ (z : WeakFacts). z.required) (sym same) ∙ is)
required_declares t weak (section o) m halves l h is = cc

optional_declares : (t : Tables) (weak : List ℕ) (e : Edge) (m : LinkFacts) (halves : WeakFacts) (l : LinkFacts) → weak_edge m halves ≡ facts_of t weak e → halves.optional ≡ Some l → l.declarations ≡ covered.Optional
optional_declares t weak feature_to_base m halves l h is = cc
optional_declares t weak named_feature m halves l h is = cc
optional_declares t weak (dep_colon o) m halves l h is = cc
optional_declares t weak (slash_full o) m halves l h is = cc
optional_declares t weak (slash_optional o) m halves l h is = cc
optional_declares t weak (slash_weak k o) m halves l h is =
    let same : halves ≡ weak_facts t weak k = cc in
    half_declares t covered.Optional k l (ap (λ (z : WeakFacts). z.optional) (sym same) ∙ is)
optional_declares t weak (section o) m halves l h is = cc

-- the two halves of a weak edge declare different things
halves_differ : (t : Tables) (weak : List ℕ) (e : Edge) (m : LinkFacts) (halves : WeakFacts) (l o : LinkFacts) → weak_edge m halves ≡ facts_of t weak e → halves.required ≡ Some l → halves.optional ≡ Some o → l.declarations ≡ o.declarations → ⊥
halves_differ t weak e m halves l o is a b same =
    let x : l.declarations ≡ covered.Required = required_declares t weak e m halves l is a in
    let y : o.declarations ≡ covered.Optional = optional_declares t weak e m halves o is b in
    let z : covered.Required ≡ covered.Optional = sym x ∙ same ∙ y in
    cc

no_link : {P : Type 0} (l : LinkFacts) → ◌≡◌ {A = Option LinkFacts} None (Some l) → P
no_link {P} l e = absurd (never e)
  where
    never : ◌≡◌ {A = Option LinkFacts} None (Some l) → ⊥
    never e = cc

two_halves : (f : EdgeFacts) (l o : LinkFacts) → link_at f Required ≡ Some l → link_at f Optional ≡ Some o → l.declarations ≡ o.declarations
    → ((m : LinkFacts) (halves : WeakFacts) (x y : LinkFacts) → f ≡ weak_edge m halves → halves.required ≡ Some x → halves.optional ≡ Some y → x.declarations ≡ y.declarations → ⊥) → ⊥
two_halves base_edge l o is also same differ = no_link l is
two_halves feature_edge l o is also same differ = no_link l is
two_halves (colon_edge m) l o is also same differ = no_link l is
two_halves (strong_edge m) l o is also same differ = no_link l is
two_halves (weak_edge m halves) l o is also same differ = differ m halves l o refl is also same
two_halves (section_edge m) l o is also same differ = no_link l is

-- the full link and a half are not both offered
full_or_half : (direction : DependencyDirection) (f : EdgeFacts) (h : Half) → IsTrue (has_half (asked direction f) Full) → IsTrue (has_half (asked direction f) h) → h ≡ Full
full_or_half direction f Full a b = refl
full_or_half direction base_edge Required a b = cc
full_or_half direction base_edge Optional a b = cc
full_or_half direction feature_edge Required a b = cc
full_or_half direction feature_edge Optional a b = cc
full_or_half direction (colon_edge l) Required a b = cc
full_or_half direction (colon_edge l) Optional a b = cc
full_or_half direction (strong_edge l) Required a b = cc
full_or_half direction (strong_edge l) Optional a b = cc
full_or_half direction (weak_edge l w) Required a b = cc
full_or_half direction (weak_edge l w) Optional a b = cc
full_or_half direction (section_edge l) Required a b = cc
full_or_half direction (section_edge l) Optional a b = cc

one_half : (direction : DependencyDirection) (f : EdgeFacts) (g h : Half) (l o : LinkFacts) → IsTrue (has_half (asked direction f) g) → IsTrue (has_half (asked direction f) h) → link_at f g ≡ Some l → link_at f h ≡ Some o → l.declarations ≡ o.declarations
    → ((m : LinkFacts) (halves : WeakFacts) (x y : LinkFacts) → f ≡ weak_edge m halves → halves.required ≡ Some x → halves.optional ≡ Some y → x.declarations ≡ y.declarations → ⊥) → g ≡ h
one_half direction f Full h l o a b is also same differ = sym (full_or_half direction f h a b)
one_half direction f Required Full l o a b is also same differ = full_or_half direction f Required b a
one_half direction f Optional Full l o a b is also same differ = full_or_half direction f Optional b a
one_half direction f Required Required l o a b is also same differ = refl
one_half direction f Optional Optional l o a b is also same differ = refl
one_half direction f Required Optional l o a b is also same differ = absurd (two_halves f l o is also same differ)
one_half direction f Optional Required l o a b is also same differ = absurd (two_halves f o l also is (sym same) differ)

-- two offers with one name are equal
pub one_offer : (t : Tables) → (b : Built) (direction : DependencyDirection) (d : ℕ) (g : Half) (e : ℕ) (h : Half) → IsBuilt t b → IsOffer (content_of direction b) d g → IsOffer (content_of direction b) e h → HaveOneName b d g e h → (d ≡ e) × (g ≡ h)
one_offer t b direction d g e h built one other name = (place, half)
  where
    place : d ≡ e
    place = edge_once t b d e name.one name.other built name.is_one name.is_other name.from name.to

    same_edge : name.other ≡ name.one
    same_edge = got_same name.other name.one (sym name.is_other ∙ ap (slice_get b.edges) (sym place) ∙ name.is_one)

    offered : (k : ℕ) (half : Half) (x : ℕ × ℕ × EdgeFacts) → slice_get b.edges k ≡ Some x → IsOffer (content_of direction b) k half → IsTrue (has_half (asked direction x.2) half)
    offered k half x at offer =
        let y = way_edge b direction k offer.way offer.is_way in
        let same : y.0 ≡ x = got_same y.0 x (sym y.1 ∙ at) in
        subst (λ (z : ℕ × ℕ × EdgeFacts). IsTrue (has_half (asked direction z.2) half)) same (subst (λ (z : Way). IsTrue (has_half z.ask half)) (sym y.2) offer.half)

    differ : (m : LinkFacts) (halves : WeakFacts) (x y : LinkFacts) → name.one.2 ≡ weak_edge m halves → halves.required ≡ Some x → halves.optional ≡ Some y → x.declarations ≡ y.declarations → ⊥
    differ m halves x y is r o same =
        ∥∥₁_elim (says t b d name.one built name.is_one) (λ p q. absurd p) (λ s. halves_differ t (numbers b) s.0 m halves x y (sym is ∙ s.2) r o same)

    half : g ≡ h
    half =
        one_half direction name.one.2 g h name.link name.other_link
        (offered d g name.one name.is_one one)
        (subst (λ (z : ℕ × ℕ × EdgeFacts). IsTrue (has_half (asked direction z.2) h)) same_edge (offered e h name.other name.is_other other))
        name.is_link
        (subst (λ (z : ℕ × ℕ × EdgeFacts). link_at z.2 h ≡ Some name.other_link) same_edge name.is_other_link)
        name.declarations differ
