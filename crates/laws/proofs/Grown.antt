-- Tables that grow reach more.
use Rattle.std.proofs.Common.{◌≡◌, ◌⊎◌, inl, inr, ⊎_elim, ℕ, ◌+◌, ◌<◌, List, [], ◌∷◌, ◌++◌, Bool, true, false, cond, not, Option, None, Some, length, map, refl, ap, sym, ◌∙◌, subst, arith, eq-eqb}
use Rattle.std.specs.Prelude.{◌≤◌, ◌==◌, ◌&&◌, ◌||◌, Contains, IsTrue, slice_get}
use Rattle.std.specs.Cmp.Lexicographic.{bytes_decides}
use Rattle.std.specs.List.{list_any}
use Rattle.std.specs.Option.{is_some, option_map_or}
use Rattle.std.specs.Str.{bytes_eq}
use Rattle.std.proofs.Math.Logic.{∥∥₁_elim}
use Rattle.std.proofs.Props.{props}
use Rattle.std.proofs.lemmas.Bool.{eqb-true}
use Rattle.std.proofs.lemmas.List.Elements.{Contains-append_cases, Contains-append_left, Contains-append_right}
use Rattle.digraphs.specs.Bits.{has}
use Rattle.guppy_packages.specs.Items.{Item, slash_item}
use Rattle.guppy_packages.specs.Rows.{Declared, Text}
use Rattle.guppy_packages.specs.Tables.{AreTables, FeatureTable, LinkTable, PackageTable, Tables, has_name, pair_of}
use Rattle.guppy_packages.specs.declared.direction.DependencyDirection.TheVariants.{Forward}
use Rattle.guppy_packages.proofs.Lists.{slice_get-map}
use Rattle.feature_labels.specs.Names.{LabelName}
use Rattle.feature_labels.specs.Names.LabelName.{base, named, optional}
use Rattle.feature_labels.specs.Orders.{label_eq}
use Rattle.feature_labels.specs.declared.link_declarations.LinkDeclarations.TheVariants as covered
use Rattle.feature_labels.proofs.OrderLemmas.{label_eq-Decides}
use Rattle.walk_engine.specs.declared.walks.Ask.{Ask}
use Rattle.walk_engine.specs.declared.walks.Ask.TheVariants as asks
use Rattle.walk_engine.specs.declared.walks.Half.{Half}
use Rattle.walk_engine.specs.declared.walks.Half.TheVariants.{Full, Required, Optional}
use Rattle.walk_engine.specs.Laws.{every}
use Rattle.walk_engine.specs.Walks.{IsClosed, IsWay, Way, has_gate, has_half}
use Rattle.feature_links.specs.Facts.{EdgeFacts}
use Rattle.feature_links.specs.Links.{IsLink, IsPackage, LinkFacts, half_of, half_over, has_declaration, includes, over}
use Rattle.feature_core.specs.Built.{Built, IsBuilt}
use Rattle.feature_core.specs.Candidates.{Candidate, Edge, HasItem, IsEdge, LeadsOver, feature_to_base, named_feature, dep_colon, slash_full, slash_optional, slash_weak, section, to_base, to_feature, to_dependency, over_strong, over_weak, with_dependency, with_feature, of_required, of_optional, rank_of, requesting, unsplit_of}
use Rattle.feature_core.specs.Edges.{facts_of, weak_facts}
use Rattle.feature_core.specs.Nodes.{NodeAt, first_node, labels_of, node_places}
use Rattle.feature_core.specs.Offers.{content_of}
use Rattle.feature_core.specs.Pairs.{HasCandidate}
use Rattle.feature_core.specs.Ways.{asked, way}
use Rattle.feature_core.proofs.AddsLemmas.{Contains-cases, Contains-first, Contains-later, element_at_place, place_of_element}
use Rattle.feature_core.proofs.BuildLemmas.{alone}
use Rattle.feature_core.proofs.LabelLemmas.{position_there}
use Rattle.feature_core.proofs.NameLemmas.{node_name}
use Rattle.feature_core.proofs.OfferLemmas.{edge_way, numbers, says, way_edge, weak_whole}
use Rattle.feature_core.proofs.OfferNames.{one_named}
use Rattle.feature_core.proofs.PartLemmas.{list_any_back, list_any_there}
use Rattle.feature_core.proofs.Places.{node_back, node_there}
use Rattle.feature_core.proofs.PushLemmas.{from_map, into_map}
use Rattle.laws.proofs.BuildExists.{built_exists}
use Rattle.plan_starts.specs.step_visits.Visits.{IsReached, is_node, is_place, is_start, node_at, reaches}
use Rattle.plan_starts.proofs.Places.{node_found}
use Rattle.laws.specs.plans.Growth.{AreAmongBy, GrownTablesReachMore, HasLink, HasMore, IsMoreOf}
use Rattle.laws.proofs.Closed.{at_found, in_set, reached_in, stable}
use Rattle.laws.proofs.Members.{any_member, both_true, member_any}

three_true : (a b c : Bool) → a ≡ true → b ≡ true → c ≡ true → (a && b && c) ≡ true
three_true a b c x y z = rw (x, y, z) refl

two_true : (a b : Bool) → a ≡ true → b ≡ true → (a && b) ≡ true
two_true a b x y = rw (x, y) refl

-- the node that is found is at the place
got : (t : Tables) (n p : ℕ) (l : LabelName) → node_at t p l ≡ Some n → NodeAt t n p l
got t n p l h =
    let q = position_there (is_place (p, l)) n (node_places t) h in
    let parts = both_true (p == q.element.0) (label_eq l q.element.1) q.passes in
    let number : q.element.0 ≡ p = sym (eqb-true p q.element.0 parts.0) in
    let label : q.element.1 ≡ l = sym ((label_eq-Decides l q.element.1).0 parts.1) in
    let same : ◌≡◌ {A = ℕ × LabelName} q.element (p, l) = λ i. (number i, label i) in
    q.there ∙ ap Some same

-- a node has one place
one_place : (t : Tables) (n p q : ℕ) (a b : LabelName) → NodeAt t n p a → NodeAt t n q b → ◌≡◌ {A = ℕ × LabelName} (p, a) (q, b)
one_place t n p q a b x y = let e : ◌≡◌ {A = Option (ℕ × LabelName)} (Some (p, a)) (Some (q, b)) = sym x ∙ y in cc

-- a place has one node, which is found
found : (t : Tables) → AreTables t → (n p : ℕ) (l : LabelName) → NodeAt t n p l → node_at t p l ≡ Some n
found t tables n p l x = sym (node_found t p l (Some n) (λ m. (
  (λ e. let same : n ≡ m = cc in subst (λ z. NodeAt t z p l) same x),
  (λ y. ap Some (one m y)),
)))
  where
    one : (m : ℕ) → NodeAt t m p l → n ≡ m
    one m y = let r = node_back t n p l x in one_named t tables (r.row.id, l) n m (node_name t n p l r.row r.is_row x) (node_name t m p l r.row r.is_row y)

-- a pair has one link
one_link : (t : Tables) → AreTables t → (j k : ℕ) (l m : LinkTable) → IsLink t j l → IsLink t k m → l.from ≡ m.from → l.to ≡ m.to → j ≡ k
one_link t tables j k l m x y from to =
    let pair : ◌≡◌ {A = ℕ × ℕ} (m.from, m.to) (l.from, l.to) = λ i. (sym from i, sym to i) in
    tables.pairs j k (l.from, l.to) (slice_get-map pair_of t.links j l x) (slice_get-map pair_of t.links k m y ∙ ap Some pair)

-- a link with required declarations has a required half
half_there : (t : Tables) (k : ℕ) (link : LinkTable) → IsLink t k link → IsTrue (has_declaration covered.Required link) → IsTrue (is_some (half_of t covered.Required k))
half_there t k link is h =
    let m : LinkFacts = over covered.Required (λ d. includes covered.Required d) ((k, link) ∷ []) in
    let half : half_of t covered.Required k ≡ Some m = ap (λ (o : Option LinkTable). option_map_or (half_over covered.Required k) o None) is ∙ ap (λ (b : Bool). cond {A = Option LinkFacts} b (Some m) None) h in
    ap is_some half

half_back : (t : Tables) (k : ℕ) (link : LinkTable) → IsLink t k link → IsTrue (is_some (half_of t covered.Required k)) → IsTrue (has_declaration covered.Required link)
half_back t k link is h = go (has_declaration covered.Required link) (sym (ap (λ (o : Option LinkTable). is_some (option_map_or (half_over covered.Required k) o None)) is) ∙ h)
  where
    go : (b : Bool) → is_some (cond {A = Option LinkFacts} b (Some (over covered.Required (λ d. includes covered.Required d) ((k, link) ∷ []))) None) ≡ true → b ≡ true
    go true e = refl
    go false e = cc

-- a declaration that isn't optional is required
one_required : (xs : List Declared) → 0 < length xs → list_any (λ d. includes covered.Optional d) xs ≡ false → IsTrue (list_any (λ d. includes covered.Required d) xs)
one_required [] some none = absurd (omega arith)
one_required (d ∷ ds) some none = go d.optional none
  where
    go : (b : Bool) → (b || list_any (λ d. includes covered.Optional d) ds) ≡ false → (not b || list_any (λ d. includes covered.Required d) ds) ≡ true
    go true h = absurd (cc)
    go false h = refl

-- The way of a weak edge over a link.
record IsWeakWay (t : Tables) (b : Built) (x : ℕ × ℕ × EdgeFacts) (k : ℕ) (link : LinkTable) : Type 0 where
  gate : ℕ
  is_gate : NodeAt t gate link.from (optional link.name)
  ask : (way Forward b.weak x).ask ≡ asks.Weak (is_some (half_of t covered.Required k)) true
  gated : (way Forward b.weak x).gate ≡ gate

module _ (t : Tables) (tables : AreTables t) (b : Built) (is : IsBuilt t b) where
  way_over : (e : ℕ) (x : ℕ × ℕ × EdgeFacts) → slice_get b.edges e ≡ Some x → (k : ℕ) (link : LinkTable) → LeadsOver t x.0 x.1 true k link → x.2 ≡ facts_of t (numbers b) (slash_weak k (unsplit_of k link)) → IsWeakWay t b x k link
  way_over e x at k link leads facts =
      let l = unsplit_of k link in
      let halves = weak_facts t (numbers b) k in
      let whole = weak_whole t tables b e x.0 x.1 l halves is (at ∙ ap (λ f. Some (x.0, x.1, f)) facts) in
      let listed : ◌≡◌ {A = List ℕ} (whole.number ∷ []) (k ∷ []) = sym whole.over ∙ alone k link (tables.declarations k link leads.is_link) in
      let number : whole.number ≡ k = cc in
      let there : ◌≡◌ {A = Option LinkTable} (Some whole.link) (Some link) = sym whole.is_link ∙ ap (λ n. slice_get t.links n) number ∙ leads.is_link in
      let one : whole.link ≡ link = cc in
      record {
        gate = whole.gate;
        is_gate = subst (λ (z : LinkTable). NodeAt t whole.gate z.from (optional z.name)) one whole.is_gate;
        ask = ap (asked Forward) facts;
        gated = ap (λ (f : EdgeFacts). (way Forward b.weak (x.0, x.1, f)).gate) facts ∙ ap (λ (o : Option (ℕ × ℕ)). option_map_or (λ z. z.1) o 0) whole.entry;
      }

  weak_way : (e : ℕ) (x : ℕ × ℕ × EdgeFacts) → slice_get b.edges e ≡ Some x → (k : ℕ) (l : LinkFacts) → Candidate t x.0 x.1 (slash_weak k l) → x.2 ≡ facts_of t (numbers b) (slash_weak k l) → (link : LinkTable) × LeadsOver t x.0 x.1 true k link × IsWeakWay t b x k link
  weak_way e x at k l (to_base p a from differ to same) facts = absurd (cc)
  weak_way e x at k l (to_feature p f g item differ from to same) facts = absurd (cc)
  weak_way e x at k l (to_dependency p f d item from to same) facts = absurd (cc)
  weak_way e x at k l (over_strong j link weak leads strong same) facts = absurd (cc)
  weak_way e x at k l (over_weak j link leads has same) facts =
      let number : j ≡ k = cc in
      subst (λ z. (link : LinkTable) × LeadsOver t x.0 x.1 true z link × IsWeakWay t b x z link) number (link, leads, way_over e x at j link leads (facts ∙ ap (facts_of t (numbers b)) same))
  weak_way e x at k l (with_dependency p f d g item from to same) facts = absurd (cc)
  weak_way e x at k l (with_feature p n f d g item from between differ to same) facts = absurd (cc)
  weak_way e x at k l (of_required sec) facts = let same = sec.is_edge in absurd (cc)
  weak_way e x at k l (of_optional sec) facts = let same = sec.is_edge in absurd (cc)

module _ (t s : Tables) (ts : AreTables t) (ss : AreTables s) (R : ℕ → Bool) (number : ℕ → ℕ) (more : HasMore t s R number) where
  -- Labels, nodes and items are there.

  optional_there : (p : ℕ) (x y : PackageTable) (d : Text) → IsTrue (R p) → IsPackage t p x → IsPackage s (number p) y → Contains x.optional_names d → Contains y.optional_names d
  optional_there p x y d r is_x is_y c =
      let had : has_name d x.optional_names ≡ true = any_member (bytes_eq d) x.optional_names d c ((bytes_decides d d).1 refl) in
      let test : ℕ → LinkTable → Bool = λ n l. (n == l.from) && bytes_eq d l.name && list_any (λ z. z.optional) l.declarations in
      let q = list_any_back (test p) t.links (sym (ts.optional p x d is_x) ∙ had) in
      let parts = both_true ((p == q.element.from) && bytes_eq d q.element.name) (list_any (λ z. z.optional) q.element.declarations) q.passes in
      let pair = both_true (p == q.element.from) (bytes_eq d q.element.name) parts.0 in
      let from : p ≡ q.element.from = eqb-true p q.element.from pair.0 in
      let name : d ≡ q.element.name = (bytes_decides d q.element.name).0 pair.1 in
      let h = (more.links q.place q.element (subst (λ z. IsTrue (R z)) from r) q.there).0 in
      let m = member_any (λ (z : Declared). z.optional) q.element.declarations parts.1 in
      let any : list_any (λ (z : Declared). z.optional) h.link.declarations ≡ true = any_member (λ (z : Declared). z.optional) h.link.declarations m.element (h.declarations m.element m.member) m.passes in
      let passes : test (number p) h.link ≡ true = three_true (number p == h.link.from) (bytes_eq d h.link.name) (list_any (λ z. z.optional) h.link.declarations) (eq-eqb (number p) h.link.from (ap number from ∙ sym h.from)) ((bytes_decides d h.link.name).1 (name ∙ sym h.name)) any in
      let has : has_name d y.optional_names ≡ true = ss.optional (number p) y d is_y ∙ list_any_there (test (number p)) s.links h.place h.link h.is_link passes in
      let w = member_any (bytes_eq d) y.optional_names has in
      subst (λ z. Contains y.optional_names z) (sym ((bytes_decides d w.element).0 w.passes)) w.member

  label_there : (p : ℕ) (x y : PackageTable) → IsTrue (R p) → IsPackage t p x → IsPackage s (number p) y → IsMoreOf x y → (l : LabelName) → Contains (labels_of x) l → Contains (labels_of y) l
  label_there p x y r is_x is_y grows l c = ⊎_elim
      (λ e. subst (λ z. Contains (labels_of y) z) e (Contains-first base features_y))
      (λ i. Contains-later base features_y l (⊎_elim
      (λ j. let m = from_map (λ (f : FeatureTable). named f.name) x.features l j in let g = grows.features m.0 m.1 in
      let same : named g.0.name ≡ l = ap named g.2 ∙ m.2 in
      Contains-append_left (map (λ (f : FeatureTable). named f.name) y.features) (map (λ d. optional d) y.optional_names) l (subst (λ z. Contains (map (λ (f : FeatureTable). named f.name) y.features) z) same (into_map (λ (f : FeatureTable). named f.name) y.features g.0 g.1)))
      (λ j. let m = from_map (λ (d : Text). optional d) x.optional_names l j in
      Contains-append_right (map (λ (f : FeatureTable). named f.name) y.features) (map (λ d. optional d) y.optional_names) l (subst (λ z. Contains (map (λ (d : Text). optional d) y.optional_names) z) m.2 (into_map (λ (d : Text). optional d) y.optional_names m.0 (optional_there p x y m.0 r is_x is_y m.1))))
      (Contains-append_cases (map (λ (f : FeatureTable). named f.name) x.features) (map (λ d. optional d) x.optional_names) l i)))
      (Contains-cases base (map (λ f. named f.name) x.features ++ map (λ d. optional d) x.optional_names) l c)
    where
      features_y : List LabelName
      features_y = map (λ f. named f.name) y.features ++ map (λ d. optional d) y.optional_names

  node_on : (n p : ℕ) (l : LabelName) → IsTrue (R p) → NodeAt t n p l → (m : ℕ) × NodeAt s m (number p) l
  node_on n p l r x =
      let b = node_back t n p l x in
      let y = more.packages p b.row r b.is_row in
      let c = label_there p b.row y.0 r b.is_row y.1 y.2 l (element_at_place (labels_of b.row) b.place l b.is_place) in
      let q = place_of_element (labels_of y.0) l c in
      (first_node s (number p) + q.0, node_there s (number p) q.0 y.0 l y.1 q.1)

  item_on : (p : ℕ) (f : Text) (item : Item) → IsTrue (R p) → HasItem t p f item → HasItem s (number p) f item
  item_on p f item r h =
      let y = more.packages p h.table r h.is_package in
      let g = y.2.features h.feature h.is_feature in
      record { table = y.0; is_package = y.1; feature = g.0; is_feature = g.1; name = g.2 ∙ h.name; text = h.text; is_item = g.3 h.text h.is_item; says = h.says }

  -- Over a link.

  link_on : (k : ℕ) (link : LinkTable) → IsTrue (R link.from) → IsLink t k link → HasLink s number link
  link_on k link r is = (more.links k link r is).0

  any_on : (p : Declared → Bool) (link : LinkTable) (h : HasLink s number link) → IsTrue (list_any p link.declarations) → IsTrue (list_any p h.link.declarations)
  any_on p link h any =
      let m = member_any p link.declarations any in
      any_member p h.link.declarations m.element (h.declarations m.element m.member) m.passes

  leads_on : (u w m n k : ℕ) (weak : Bool) (link : LinkTable) (h : HasLink s number link) → IsTrue (R link.from) → (x : LeadsOver t u w weak k link) → NodeAt s m (number link.from) (named x.f) → NodeAt s n (number link.to) (named x.g) → LeadsOver s m n weak h.place h.link
  leads_on u w m n k weak link h r x from to = record {
    f = x.f;
    g = x.g;
    has_item = subst (λ z. HasItem s z x.f (slash_item h.link.name x.g weak)) (sym h.from) (subst (λ z. HasItem s (number link.from) x.f (slash_item z x.g weak)) (sym h.name) (item_on link.from x.f (slash_item link.name x.g weak) r x.has_item));
    from_node = subst (λ z. NodeAt s m z (named x.f)) (sym h.from) from;
    is_link = h.is_link;
    to_node = subst (λ z. NodeAt s n z (named x.g)) (sym h.to) to;
  }

  -- A closed set of the larger tables, and what it has of the smaller ones.

  module _ (a b : Built) (is_a : IsBuilt t a) (is_b : IsBuilt s b) (starts others : List (ℕ × LabelName)) (among : AreAmongBy number starts others) (begins : (x : ℕ × LabelName) → Contains starts x → IsTrue (R x.0))
      (B : ℕ → Bool) (closed : IsClosed (content_of Forward b) (is_start s others) every (λ n. IsTrue (B n))) where
    abbrev member : ℕ → LabelName → Bool
    member p l = option_map_or B (node_at s p l) false

    abbrev A : ℕ → Bool
    A n = option_map_or (λ x. R x.0 && member (number x.0) x.1) (slice_get (node_places t) n) false

    at_node : (n p : ℕ) (l : LabelName) → NodeAt t n p l → A n ≡ (R p && member (number p) l)
    at_node n p l x = ap (λ o. option_map_or (λ x. R x.0 && member (number x.0) x.1) o false) x

    member_is : (n p : ℕ) (l : LabelName) → NodeAt s n p l → member p l ≡ B n
    member_is n p l x = ap (λ o. option_map_or B o false) (found s ss n p l x)

    -- the weak edge between two nodes is passed
    abbrev Passes : ℕ → ℕ → Type 0
    Passes m n = (k : ℕ) (l : LinkFacts) → IsEdge s m n (slash_weak k l) → (link : LinkTable) → LeadsOver s m n true k link → (gate : ℕ) → NodeAt s gate link.from (optional link.name)
        → IsTrue (is_some (half_of s covered.Required k)) ⊎ IsTrue (B gate)

    arrives : (m n : ℕ) → HasCandidate s m n → Passes m n → IsTrue (B m) → IsTrue (B n)
    arrives m n has passes in_m =
        let x = from_map (λ (y : ℕ × ℕ × EdgeFacts). (y.0, y.1)) b.edges (m, n) ((is_b.pairs.exact m n).1 has) in
        let at = place_of_element b.edges x.0 x.1 in
        let there : IsProp (IsTrue (B n)) = hlevel props in
        ∥∥₁_elim (says s b at.0 x.0 is_b at.1) there (λ y. subst (λ z. IsTrue (B z)) (ap (λ (z : ℕ × ℕ). z.1) x.2)
        (over_way at.0 x.0 at.1 y.0 y.1 y.2 (subst (λ (z : ℕ × ℕ). Passes z.0 z.1) (sym x.2) passes) (subst (λ (z : ℕ × ℕ). IsTrue (B z.0)) (sym x.2) in_m)))
      where
        full : (e : ℕ) (x : ℕ × ℕ × EdgeFacts) → slice_get b.edges e ≡ Some x → (way Forward b.weak x).ask ≡ asks.Full → IsTrue (B x.0) → IsTrue (B x.1)
        full e x at ask h =
            closed.offered e Full (way Forward b.weak x) (edge_way b Forward e x at) (subst (λ (z : Ask). IsTrue (has_half z Full)) (sym ask) refl) refl h
            (λ g. absurd (let gate : has_gate asks.Full Full ≡ true = subst (λ (z : Ask). has_gate z Full ≡ true) ask g in cc))

        over_way : (e : ℕ) (x : ℕ × ℕ × EdgeFacts) → slice_get b.edges e ≡ Some x → (c : Edge) → IsEdge s x.0 x.1 c → x.2 ≡ facts_of s (numbers b) c → Passes x.0 x.1 → IsTrue (B x.0) → IsTrue (B x.1)
        over_way e x at feature_to_base edge facts pass h = closed.unasked e (way Forward b.weak x) (edge_way b Forward e x at) (ap (asked Forward) facts) h
        over_way e x at named_feature edge facts pass h = closed.unasked e (way Forward b.weak x) (edge_way b Forward e x at) (ap (asked Forward) facts) h
        over_way e x at (dep_colon l) edge facts pass h = full e x at (ap (asked Forward) facts) h
        over_way e x at (slash_full l) edge facts pass h = full e x at (ap (asked Forward) facts) h
        over_way e x at (slash_optional l) edge facts pass h = full e x at (ap (asked Forward) facts) h
        over_way e x at (section l) edge facts pass h = full e x at (ap (asked Forward) facts) h
        over_way e x at (slash_weak k l) edge facts pass h =
            let found = weak_way s ss b is_b e x at k l edge.candidate facts in
            let w = found.2 in
            let v = way Forward b.weak x in
            let there = edge_way b Forward e x at in
            ⊎_elim
            (λ i. closed.offered e Required v there (subst (λ (z : Ask). IsTrue (has_half z Required)) (sym w.ask) i) refl h (λ g. absurd (let gate : has_gate (asks.Weak (is_some (half_of s covered.Required k)) true) Required ≡ true = subst (λ (z : Ask). has_gate z Required ≡ true) w.ask g in cc)))
            (λ i. closed.offered e Optional v there (subst (λ (z : Ask). IsTrue (has_half z Optional)) (sym w.ask) refl) refl h (λ g. subst (λ z. IsTrue (B z)) (sym w.gated) i))
            (pass k l edge found.0 found.1 w.gate w.is_gate)

    -- From one node of the smaller tables to another.

    source : (u p : ℕ) (k : LabelName) → NodeAt t u p k → IsTrue (A u) → IsTrue (R p)
    source u p k from h = (both_true (R p) (member (number p) k) (sym (at_node u p k from) ∙ h)).0

    cross : (u w p q : ℕ) (k l : LabelName) → NodeAt t u p k → NodeAt t w q l → IsTrue (R q) → ((m n : ℕ) → NodeAt s m (number p) k → NodeAt s n (number q) l → HasCandidate s m n × Passes m n) → IsTrue (A u) → IsTrue (A w)
    cross u w p q k l from to r leads h =
        let parts = both_true (R p) (member (number p) k) (sym (at_node u p k from) ∙ h) in
        let m = node_on u p k parts.0 from in
        let n = node_on w q l r to in
        let both = leads m.0 n.0 m.1 n.1 in
        let in_n : IsTrue (B n.0) = arrives m.0 n.0 both.0 both.1 (sym (member_is m.0 (number p) k m.1) ∙ parts.1) in
        at_node w q l to ∙ two_true (R q) (member (number q) l) r (member_is n.0 (number q) l n.1 ∙ in_n)

    -- no edge of a rank below 6 is weak
    no_weak : (m n : ℕ) (e : Edge) → Candidate s m n e → rank_of e < 6 → Passes m n
    no_weak m n e c less k l edge link leads gate node = let least : 6 ≤ rank_of e = edge.least e c in absurd (omega (arith, less, least))

    reached_by : (m n : ℕ) (e : Edge) → Candidate s m n e → rank_of e < 6 → HasCandidate s m n × Passes m n
    reached_by m n e c less = (∣ (e, c) ∣₁, no_weak m n e c less)

    -- a weak edge between two nodes leads over one link
    its_number : (m n j : ℕ) (link : LinkTable) → LeadsOver s m n true j link → (k : ℕ) (other : LinkTable) → LeadsOver s m n true k other → j ≡ k
    its_number m n j link x k other y =
        let from : link.from ≡ other.from = ap (λ (z : ℕ × LabelName). z.0) (one_place s m link.from other.from (named x.f) (named y.f) x.from_node y.from_node) in
        let to : link.to ≡ other.to = ap (λ (z : ℕ × LabelName). z.0) (one_place s n link.to other.to (named x.g) (named y.g) x.to_node y.to_node) in
        one_link s ss j k link other x.is_link y.is_link from to

    -- a weak edge of the smaller tables is opened
    abbrev IsOpen : ℕ → LinkTable → Type 0
    IsOpen k link = IsTrue (is_some (half_of t covered.Required k)) ⊎ ((gate : ℕ) × NodeAt t gate link.from (optional link.name) × IsTrue (A gate))

    required_there : (m n : ℕ) (link : LinkTable) (h : HasLink s number link) → LeadsOver s m n true h.place h.link → IsTrue (has_declaration covered.Required link) → (k : ℕ) (other : LinkTable) → LeadsOver s m n true k other → IsTrue (is_some (half_of s covered.Required k))
    required_there m n link h x any k other y =
        subst (λ z. IsTrue (is_some (half_of s covered.Required z))) (its_number m n h.place h.link x k other y) (half_there s h.place h.link h.is_link (any_on (λ d. includes covered.Required d) link h any))

    strong_on : (u w k : ℕ) (link : LinkTable) (weak : Bool) (x : LeadsOver t u w weak k link) → IsTrue (R link.from) → (weak && has_declaration covered.Optional link) ≡ false → (h : HasLink s number link) → (m n : ℕ) → LeadsOver s m n weak h.place h.link → HasCandidate s m n × Passes m n
    strong_on u w k link weak x r strong h m n y = go (weak && has_declaration covered.Optional h.link) refl
      where
        go : (b : Bool) → (weak && has_declaration covered.Optional h.link) ≡ b → HasCandidate s m n × Passes m n
        go false e = reached_by m n (slash_full (unsplit_of h.place h.link)) (over_strong h.place h.link weak y e refl) (omega arith)
        go true e =
            let parts = both_true weak (has_declaration covered.Optional h.link) e in
            let z : LeadsOver s m n true h.place h.link = subst (λ q. LeadsOver s m n q h.place h.link) parts.0 y in
            let none : has_declaration covered.Optional link ≡ false = ap (λ q. q && has_declaration covered.Optional link) (sym parts.0) ∙ strong in
            let any = one_required link.declarations (ts.declarations k link x.is_link) none in
            (∣ (slash_weak h.place (unsplit_of h.place h.link), over_weak h.place h.link z parts.1 refl) ∣₁, λ j l edge other leads gate node. inl (required_there m n link h z any j other leads))

    weak_on : (u w k : ℕ) (link : LinkTable) (x : LeadsOver t u w true k link) → IsOpen k link → IsTrue (has_declaration covered.Optional link) → (h : HasLink s number link) → (m n : ℕ) → LeadsOver s m n true h.place h.link → HasCandidate s m n × Passes m n
    weak_on u w k link x opened has h m n y = (
      ∣ (slash_weak h.place (unsplit_of h.place h.link), over_weak h.place h.link y (any_on (λ d. includes covered.Optional d) link h has) refl) ∣₁,
      λ j l edge other leads gate node. ⊎_elim
          (λ i. inl (required_there m n link h y (half_back t k link x.is_link i) j other leads))
          (λ o. inr (gated j other leads gate node o.0 o.1 o.2))
          opened,
    )
      where
        gated : (j : ℕ) (other : LinkTable) → LeadsOver s m n true j other → (gate : ℕ) → NodeAt s gate other.from (optional other.name) → (g : ℕ) → NodeAt t g link.from (optional link.name) → IsTrue (A g) → IsTrue (B gate)
        gated j other leads gate node g at in_g =
            let place = its_number m n h.place h.link y j other leads in
            let both : ◌≡◌ {A = Option LinkTable} (Some h.link) (Some other) = sym h.is_link ∙ ap (λ z. slice_get s.links z) place ∙ leads.is_link in
            let same : h.link ≡ other = cc in
            let own : NodeAt s gate h.link.from (optional h.link.name) = subst (λ (z : LinkTable). NodeAt s gate z.from (optional z.name)) (sym same) node in
            let there : NodeAt s gate (number link.from) (optional link.name) = subst (λ z. NodeAt s gate z (optional link.name)) h.from (subst (λ z. NodeAt s gate h.link.from (optional z)) h.name own) in
            sym (member_is gate (number link.from) (optional link.name) there) ∙ (both_true (R link.from) (member (number link.from) (optional link.name)) (sym (at_node g link.from (optional link.name) at) ∙ in_g)).1

    -- a section leaves no node of a feature
    section_on : (m n : ℕ) (e : Edge) (p : ℕ) (label : LabelName) → Candidate s m n e → NodeAt s m p label → ((f : Text) → named f ≡ label → ⊥) → HasCandidate s m n × Passes m n
    section_on m n e p label c at apart = (∣ (e, c) ∣₁, λ j l edge other leads gate node. absurd (apart leads.f (ap (λ (z : ℕ × LabelName). z.1) (one_place s m other.from p (named leads.f) label leads.from_node at))))

    stays : (u w : ℕ) (c : Edge) → Candidate t u w c → ((k : ℕ) (link : LinkTable) → c ≡ slash_weak k (unsplit_of k link) → LeadsOver t u w true k link → IsOpen k link) → IsTrue (A u) → IsTrue (A w)
    stays u w c (to_base p l from differ to is) opened h =
        cross u w p p l base from to (source u p l from h) (λ m n x y. reached_by m n feature_to_base (to_base (number p) l x differ y refl) (omega arith)) h
    stays u w c (to_feature p f g item differ from to is) opened h =
        let r = source u p (named f) from h in
        cross u w p p (named f) (named g) from to r (λ m n x y. reached_by m n named_feature (to_feature (number p) f g (item_on p f _ r item) differ x y refl) (omega arith)) h
    stays u w c (to_dependency p f d item from to is) opened h =
        let r = source u p (named f) from h in
        cross u w p p (named f) (optional d) from to r (λ m n x y. reached_by m n (dep_colon _) (to_dependency (number p) f d (item_on p f _ r item) x y refl) (omega arith)) h
    stays u w c (with_dependency p f d g item from to is) opened h =
        let r = source u p (named f) from h in
        cross u w p p (named f) (optional d) from to r (λ m n x y. reached_by m n (slash_optional _) (with_dependency (number p) f d g (item_on p f _ r item) x y refl) (omega arith)) h
    stays u w c (with_feature p k f d g item from between differ to is) opened h =
        let r = source u p (named f) from h in
        let b = node_on k p (optional d) r between in
        cross u w p p (named f) (named d) from to r (λ m n x y. reached_by m n (slash_optional _) (with_feature (number p) b.0 f d g (item_on p f _ r item) x b.1 differ y refl) (omega arith)) h
    stays u w c (over_strong k link weak leads strong is) opened h =
        let r = source u link.from (named leads.f) leads.from_node h in
        let more_of = more.links k link r leads.is_link in
        cross u w link.from link.to (named leads.f) (named leads.g) leads.from_node leads.to_node more_of.1
        (λ m n x y. strong_on u w k link weak leads r strong more_of.0 m n (leads_on u w m n k weak link more_of.0 r leads x y)) h
    stays u w c (over_weak k link leads has is) opened h =
        let r = source u link.from (named leads.f) leads.from_node h in
        let more_of = more.links k link r leads.is_link in
        cross u w link.from link.to (named leads.f) (named leads.g) leads.from_node leads.to_node more_of.1
        (λ m n x y. weak_on u w k link leads (opened k link is leads) has more_of.0 m n (leads_on u w m n k true link more_of.0 r leads x y)) h
    stays u w c (of_required sec) opened h =
        let r = source u sec.link.from base sec.from_node h in
        let more_of = more.links sec.k sec.link r sec.is_link in
        let i = more_of.0 in
        cross u w sec.link.from sec.link.to base sec.asked sec.from_node sec.to_node more_of.1
        (λ m n x y. section_on m n (section (over covered.Required (requesting sec.asked covered.Required) ((i.place, i.link) ∷ []))) (number sec.link.from) base (of_required (record {
          k = i.place;
          link = i.link;
          is_link = i.is_link;
          asked = sec.asked;
          is_requested = any_on (requesting sec.asked covered.Required) sec.link i sec.is_requested;
          from_node = subst (λ z. NodeAt s m z base) (sym i.from) x;
          to_node = subst (λ z. NodeAt s n z sec.asked) (sym i.to) y;
          is_edge = refl;
        })) x (λ f e. cc)) h
    stays u w c (of_optional sec) opened h =
        let r = source u sec.link.from (optional sec.link.name) sec.from_node h in
        let more_of = more.links sec.k sec.link r sec.is_link in
        let i = more_of.0 in
        cross u w sec.link.from sec.link.to (optional sec.link.name) sec.asked sec.from_node sec.to_node more_of.1
        (λ m n x y. section_on m n (section (over covered.Optional (requesting sec.asked covered.Optional) ((i.place, i.link) ∷ []))) (number sec.link.from) (optional sec.link.name) (of_optional (record {
          k = i.place;
          link = i.link;
          is_link = i.is_link;
          asked = sec.asked;
          is_requested = any_on (requesting sec.asked covered.Optional) sec.link i sec.is_requested;
          from_node = subst (λ z. NodeAt s m z (optional i.link.name)) (sym i.from) (subst (λ z. NodeAt s m (number sec.link.from) (optional z)) (sym i.name) x);
          to_node = subst (λ z. NodeAt s n z sec.asked) (sym i.to) y;
          is_edge = refl;
        })) x (λ f e. cc)) h

    -- The set is closed.

    abbrev Goes : Way → Type 0
    Goes w = (w.ask ≡ asks.Nobody) ⊎ ((h : Half) × IsTrue (has_half w.ask h) × (IsTrue (has_gate w.ask h) → IsTrue (A w.gate)))

    opens : (e : ℕ) (x : ℕ × ℕ × EdgeFacts) → slice_get a.edges e ≡ Some x → (c : Edge) → x.2 ≡ facts_of t (numbers a) c → Goes (way Forward a.weak x) → (k : ℕ) (link : LinkTable) → c ≡ slash_weak k (unsplit_of k link) → LeadsOver t x.0 x.1 true k link → IsOpen k link
    opens e x at c facts goes k link same leads = ⊎_elim
        (λ i. absurd (clash (sym i ∙ w.ask)))
        (λ o. by_half o.0 (subst (λ (z : Ask). IsTrue (has_half z o.0)) w.ask o.1) (λ g. o.2 (subst (λ (z : Ask). IsTrue (has_gate z o.0)) (sym w.ask) g)))
        goes
      where
        w : IsWeakWay t a x k link
        w = way_over t ts a is_a e x at k link leads (facts ∙ ap (facts_of t (numbers a)) same)

        clash : asks.Nobody ≡ asks.Weak (is_some (half_of t covered.Required k)) true → ⊥
        clash e = cc

        by_half : (h : Half) → IsTrue (has_half (asks.Weak (is_some (half_of t covered.Required k)) true) h) → (IsTrue (has_gate (asks.Weak (is_some (half_of t covered.Required k)) true) h) → IsTrue (A (way Forward a.weak x).gate)) → IsOpen k link
        by_half Full i g = absurd (cc)
        by_half Required i g = inl i
        by_half Optional i g = inr (w.gate, w.is_gate, subst (λ z. IsTrue (A z)) w.gated (g refl))

    moves : (e : ℕ) (w : Way) → IsWay (content_of Forward a) e w → Goes w → IsTrue (A w.start) → IsTrue (A w.far)
    moves e w at goes h =
        let x = way_edge a Forward e w at in
        let there : IsProp (IsTrue (A w.far)) = hlevel props in
        ∥∥₁_elim (says t a e x.0 is_a x.1) there (λ y. subst (λ (z : Way). IsTrue (A z.far)) x.2
        (stays x.0.0 x.0.1 y.0 y.1.candidate (opens e x.0 x.1 y.0 y.2 (subst Goes (sym x.2) goes)) (subst (λ (z : Way). IsTrue (A z.start)) (sym x.2) h)))

    begin_in : (n : ℕ) → IsTrue (is_start t starts n) → IsTrue (A n)
    begin_in n h =
        let m = member_any (λ x. is_node (node_at t x.0 x.1) n) starts h in
        go m.element m.member (node_at t m.element.0 m.element.1) refl m.passes
      where
        inside : (x : ℕ × LabelName) → Contains starts x → NodeAt t n x.0 x.1 → IsTrue (A n)
        inside x c at =
            let r = begins x c in
            let m = node_on n x.0 x.1 r at in
            let start : IsTrue (is_start s others m.0) = any_member (λ y. is_node (node_at s y.0 y.1) m.0) others (number x.0, x.1) (among x c) (ap (λ o. is_node o m.0) (found s ss m.0 (number x.0) x.1 m.1) ∙ eq-eqb m.0 m.0 refl) in
            at_node n x.0 x.1 at ∙ two_true (R x.0) (member (number x.0) x.1) r (member_is m.0 (number x.0) x.1 m.1 ∙ closed.initial m.0 start)

        go : (x : ℕ × LabelName) → Contains starts x → (o : Option ℕ) → node_at t x.0 x.1 ≡ o → is_node o n ≡ true → IsTrue (A n)
        go x c None e i = absurd (cc)
        go x c (Some k) e i = inside x c (got t n x.0 x.1 (e ∙ ap Some (eqb-true k n i)))

    A_closed : IsClosed (content_of Forward a) (is_start t starts) every (λ n. IsTrue (A n))
    A_closed = record {
      initial = begin_in;
      unasked = λ e w at none h. moves e w at (inl none) h;
      offered = λ e half w at has accepted h gate. moves e w at (inr (half, has, gate)) h;
    }

    grown : (n m p : ℕ) (l : LabelName) → NodeAt t n p l → NodeAt s m (number p) l → IsReached t starts n → IsTrue (B m)
    grown n m p l x y r = sym (member_is m (number p) l y) ∙ (both_true (R p) (member (number p) l) (sym (at_node n p l x) ∙ r a is_a A A_closed)).1

  -- the larger tables reach what the smaller ones reach
  reached_more : (starts others : List (ℕ × LabelName)) → AreAmongBy number starts others → ((x : ℕ × LabelName) → Contains starts x → IsTrue (R x.0)) → (n m p : ℕ) (l : LabelName) → NodeAt t n p l → NodeAt s m (number p) l → IsReached t starts n → IsReached s others m
  reached_more starts others among begins n m p l x y r b is_b B closed =
      stable (B m) (λ none. built_exists t ts (λ a. none (grown a.0 b a.1 is_b starts others among begins B closed n m p l x y r)))

  -- a node that is reached is in the set
  in_region : (starts : List (ℕ × LabelName)) → ((x : ℕ × LabelName) → Contains starts x → IsTrue (R x.0)) → (n p : ℕ) (l : LabelName) → NodeAt t n p l → IsReached t starts n → IsTrue (R p)
  in_region starts begins n p l x r =
      sym (at_found t R n p l (found t ts n p l x)) ∙ stable (in_set t R n) (λ none. built_exists t ts (λ a. none (reached_in t R (λ k link is q. (more.links k link q is).1) a.0 a.1 starts begins n r)))

pub grown_tables : GrownTablesReachMore
grown_tables t s ts ss R number more starts others among begins u v is_u is_v k label h = go (node_at t k label) refl (subst (λ (z : Tables). option_map_or (has u.members) (node_at z k label) false ≡ true) is_u.tables h)
  where
    go : (o : Option ℕ) → node_at t k label ≡ o → option_map_or (has u.members) o false ≡ true → IsTrue (reaches v (number k) label)
    go None e i = absurd (cc)
    go (Some n) e i =
        let x : NodeAt t n k label = got t n k label e in
        let reached : IsReached t starts n = (is_u.members n).0 i in
        let r = in_region t s ts ss R number more starts begins n k label x reached in
        let m = node_on t s ts ss R number more n k label r x in
        let there : has v.members m.0 ≡ true = (is_v.members m.0).1 (reached_more t s ts ss R number more starts others among begins n m.0 k label x m.1 reached) in
        subst (λ (z : Tables). option_map_or (has v.members) (node_at z (number k) label) false ≡ true) (sym is_v.tables) (ap (λ o. option_map_or (has v.members) o false) (found s ss m.0 (number k) label m.1) ∙ there)
