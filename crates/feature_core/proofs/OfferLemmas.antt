-- The offers of a feature graph, their links and their names.
use Rattle.std.proofs.Common.{◌≡◌, ℕ, ◌<◌, ◌⊎◌, ⊎_elim, List, [], ◌∷◌, length, map, Bool, true, false, not, cond, Option, Some, None, refl, ap, sym, ◌∙◌, subst, arith, get_or}
use Rattle.std.specs.Prelude.{slice_get, position, filter, filter_map, Contains, AllPairs, IsTrue, ◌==◌, is_some}
use Rattle.std.specs.Option.{option_map, option_map_or}
use Rattle.std.specs.List.{cons_option}
use Rattle.std.proofs.Math.Logic.{∥∥₁_elim, ∥∥₁_map}
use Rattle.std.proofs.Props.{props}
use Rattle.std.proofs.lemmas.Bool.Decides.{nat_tests}
use Rattle.std.proofs.lemmas.Option.{slice_get-map, get_or_from_slice_get, slice_get_within}
use Rattle.feature_edges.specs.guppy_packages.Tables.{LinkTable, Tables, AreTables}
use Rattle.feature_edges.specs.guppy_packages.declared.direction.DependencyDirection.{DependencyDirection}
use Rattle.feature_edges.specs.feature_labels.declared.link_declarations.LinkDeclarations.TheVariants as covered
use Rattle.walk_engine.specs.declared.walks.Half.{Half}
use Rattle.walk_engine.specs.declared.walks.Half.TheVariants.{Full, Required, Optional}
use Rattle.walk_engine.specs.Walks.{Way, IsWay, has_half}
use Rattle.feature_core.specs.Built.{Built, IsBuilt}
use Rattle.feature_edges.specs.EdgesOnce.{facts-set}
use Rattle.feature_edges.specs.Candidates.{Edge, Candidate, IsEdge, feature_to_base, named_feature, dep_colon, slash_full, slash_optional, slash_weak, section, to_base, to_feature, to_dependency, over_strong, over_weak, with_dependency, with_feature, of_required, of_optional, unsplit_of}
use Rattle.feature_edges.specs.feature_links.Facts.{WeakFacts, EdgeFacts, base_edge, feature_edge, colon_edge, strong_edge, weak_edge, section_edge, link_at}
use Rattle.feature_edges.specs.Edges.{EdgeBefore, EdgeSays, facts_of, weak_facts, weak_link, weak_links, first_ones}
use Rattle.feature_edges.specs.feature_links.Links.{half_of, half_over, LinkFacts, IsLink, has_declaration, over, includes}
use Rattle.feature_core.specs.Offers.{content_of, IsOffer, IsLinkOf, IsWeakEdge}
use Rattle.feature_core.specs.Ways.{way, asked}
use Rattle.feature_edges.proofs.AddsLemmas.{Contains-first, Contains-later, Contains-cases, Contains-none, element_at_place, place_of_element}
use Rattle.feature_edges.proofs.BuildLemmas.{alone}
use Rattle.feature_edges.proofs.LabelLemmas.{position_there, position_missing}
use Rattle.feature_edges.proofs.NodeLabels.{element_within}
use Rattle.feature_edges.proofs.Places.{got_map, got_same}
use Rattle.feature_edges.proofs.PushLemmas.{into_filter}
use Rattle.feature_edges.proofs.Ranks.{one_edge}

-- the edge of a way
pub way_edge : (b : Built) (direction : DependencyDirection) (e : ℕ) (w : Way) → IsWay (content_of direction b) e w → (x : ℕ × ℕ × EdgeFacts) × (slice_get b.edges e ≡ Some x) × (way direction b.weak x ≡ w)
way_edge b direction e w h = got_map (way direction b.weak) (slice_get b.edges e) w (sym (slice_get-map (way direction b.weak) b.edges e) ∙ h)

pub edge_way : (b : Built) (direction : DependencyDirection) (e : ℕ) (x : ℕ × ℕ × EdgeFacts) → slice_get b.edges e ≡ Some x → IsWay (content_of direction b) e (way direction b.weak x)
edge_way b direction e x h = slice_get-map (way direction b.weak) b.edges e ∙ ap (option_map (way direction b.weak)) h

-- the weak links, by index
abbrev pub numbers : Built → List ℕ
numbers b = map (λ w. w.0) b.weak

pub says : (t : Tables) (b : Built) (k : ℕ) (x : ℕ × ℕ × EdgeFacts) → IsBuilt t b → slice_get b.edges k ≡ Some x → EdgeSays t (numbers b) x.0 x.1 x.2
says t b k x h at = (h.edges.exact x.0 x.1 x.2).0 (element_at_place b.edges k x at)

pub says_same : (t : Tables) → AreTables t → (b : Built) (k : ℕ) (x : ℕ × ℕ × EdgeFacts) (e : Edge) → IsBuilt t b → slice_get b.edges k ≡ Some x → IsEdge t x.0 x.1 e → x.2 ≡ facts_of t (numbers b) e
says_same t tables b k x e h at edge =
    ∥∥₁_elim (says t b k x h at) (facts-set _ _) (λ s. s.2 ∙ ap (facts_of t (numbers b)) (one_edge t tables x.0 x.1 s.0 e s.1 edge))

-- the elements at two places of an ascending list
ascend_at : (xs : List (ℕ × ℕ × EdgeFacts)) (i j : ℕ) (x y : ℕ × ℕ × EdgeFacts) → AllPairs EdgeBefore xs → i < j → slice_get xs i ≡ Some x → slice_get xs j ≡ Some y → EdgeBefore x y
ascend_at xs i j x y h l a b =
    let first : get_or xs i x ≡ x = get_or_from_slice_get xs i x x a in
    let second : get_or xs j x ≡ y = get_or_from_slice_get xs j y x b in
    let within : j < length xs = slice_get_within xs j y b in
    subst (λ z. EdgeBefore x z) second (subst (λ z. EdgeBefore z (get_or xs j x)) first (h i j x l within))

order_of : (a b : ℕ) → (a < b) ⊎ ((b < a) ⊎ (a ≡ b))
order_of a b = grind arith

not_before : (x y : ℕ × ℕ × EdgeFacts) → EdgeBefore x y → x.0 ≡ y.0 → x.1 ≡ y.1 → ⊥
not_before x y h from to = ⊎_elim (λ l. omega (arith, l, from)) (λ l. omega (arith, l.1, to)) h

pub edge_once : (t : Tables) (b : Built) (j k : ℕ) (x y : ℕ × ℕ × EdgeFacts) → IsBuilt t b → slice_get b.edges j ≡ Some x → slice_get b.edges k ≡ Some y → x.0 ≡ y.0 → x.1 ≡ y.1 → j ≡ k
edge_once t b j k x y h at there from to =
    ⊎_elim
    (λ l. absurd (not_before x y (ascend_at b.edges j k x y h.edges.ascends l at there) from to))
    (λ o. ⊎_elim
    (λ l. absurd (not_before y x (ascend_at b.edges k j y x h.edges.ascends l there at) (sym from) (sym to)))
    (λ e. e)
    o)
    (order_of j k)

-- the package link and the halves of a weak edge
record IsWeakSaid (t : Tables) (weak : List ℕ) (l : LinkFacts) (halves : WeakFacts) : Type 0 where
  number : ℕ
  link : LinkTable
  is_link : IsLink t number link
  has : IsTrue (has_declaration covered.Optional link)
  is : l ≡ unsplit_of number link
  are : halves ≡ weak_facts t weak number

-- a candidate that is a weak edge
module _ (t : Tables) (u w : ℕ) (k : ℕ) (m : LinkFacts) where
  record IsOverWeak : Type 0 where
    link : LinkTable
    is_link : IsLink t k link
    has : IsTrue (has_declaration covered.Optional link)
    is : m ≡ unsplit_of k link

  over_this : (j : ℕ) (link : LinkTable) → slash_weak k m ≡ slash_weak j (unsplit_of j link) → IsLink t j link → IsTrue (has_declaration covered.Optional link) → IsOverWeak
  over_this j link e is has =
      let number : j ≡ k = cc in
      let same : m ≡ unsplit_of j link = cc in
      record { link = link; is_link = subst (λ z. IsLink t z link) number is; has = has; is = same ∙ ap (λ z. unsplit_of z link) number }

  weak_candidate : (e : Edge) → Candidate t u w e → e ≡ slash_weak k m → IsOverWeak
  weak_candidate e (to_base p label from differ to is) h = cc
  weak_candidate e (to_feature p f g item differ from to is) h = cc
  weak_candidate e (to_dependency p f d item from to is) h = absurd (cc)
  weak_candidate e (over_strong j link weak leads strong is) h = absurd (cc)
  weak_candidate e (over_weak j link leads has is) h = over_this j link (sym h ∙ is) leads.is_link has
  weak_candidate e (with_dependency p f d g item from to is) h = absurd (cc)
  weak_candidate e (with_feature p n f d g item from beside differ to is) h = absurd (cc)
  weak_candidate e (of_required s) h = let is = s.is_edge in absurd (cc)
  weak_candidate e (of_optional s) h = let is = s.is_edge in absurd (cc)

weak_said : (t : Tables) (weak : List ℕ) (u w : ℕ) (e : Edge) → Candidate t u w e → (l : LinkFacts) (halves : WeakFacts) → weak_edge l halves ≡ facts_of t weak e → IsWeakSaid t weak l halves
weak_said t weak u w feature_to_base c l halves h = cc
weak_said t weak u w named_feature c l halves h = cc
weak_said t weak u w (dep_colon m) c l halves h = cc
weak_said t weak u w (slash_full m) c l halves h = cc
weak_said t weak u w (slash_optional m) c l halves h = cc
weak_said t weak u w (slash_weak k m) c l halves h =
    let o = weak_candidate t u w k m (slash_weak k m) c refl in
    let link_same : l ≡ m = cc in
    let halves_same : halves ≡ weak_facts t weak k = cc in
    record { number = k; link = o.link; is_link = o.is_link; has = o.has; is = link_same ∙ o.is; are = halves_same }
weak_said t weak u w (section m) c l halves h = cc

-- numbers of a list among its first ones
into_first_ones : (xs : List ℕ) (k : ℕ) → Contains xs k → Contains (first_ones xs) k
into_first_ones [] k h = absurd (Contains-none k h)
into_first_ones (x ∷ xs) k h =
    let rest = filter (λ y. not (x == y)) (first_ones xs) in
    ⊎_elim
    (λ e. subst (λ z. Contains (x ∷ rest) z) e (Contains-first x rest))
    (λ i. go (x == k) refl (into_first_ones xs k i))
    (Contains-cases x xs k h)
  where
    go : (b : Bool) → x == k ≡ b → Contains (first_ones xs) k → Contains (x ∷ filter (λ y. not (x == y)) (first_ones xs)) k
    go true e i =
        let same : x ≡ k = grind (arith, nat_tests) in
        subst (λ z. Contains (x ∷ filter (λ y. not (x == y)) (first_ones xs)) z) same (Contains-first x (filter (λ y. not (x == y)) (first_ones xs)))
    go false e i = Contains-later x (filter (λ y. not (x == y)) (first_ones xs)) k (into_filter (λ y. not (x == y)) (first_ones xs) k i (ap not e))

into_some : {Y : Type 0} (o : Option Y) (y : Y) (ys : List Y) → o ≡ Some y → Contains (cons_option o ys) y
into_some None y ys e = cc
into_some (Some z) y ys e = subst (λ v. Contains (z ∷ ys) v) (got_same z y e) (Contains-first z ys)

later_some : {Y : Type 0} (o : Option Y) (y : Y) (ys : List Y) → Contains ys y → Contains (cons_option o ys) y
later_some None y ys h = h
later_some (Some z) y ys h = Contains-later z ys y h

into_filter_map : {X Y : Type 0} (f : X → Option Y) (xs : List X) (x : X) (y : Y) → Contains xs x → f x ≡ Some y → Contains (filter_map f xs) y
into_filter_map f [] x y h e = absurd (Contains-none x h)
into_filter_map f (z ∷ xs) x y h e =
    ⊎_elim
    (λ i. into_some (f z) y (filter_map f xs) (ap f i ∙ e))
    (λ i. later_some (f z) y (filter_map f xs) (into_filter_map f xs x y i e))
    (Contains-cases z xs x h)

-- a number that a list contains is found in it
index_there : (xs : List ℕ) (k : ℕ) → Contains xs k → slice_get xs (option_map_or (λ i. i) (position (λ j. k == j) xs) 0) ≡ Some k
index_there xs k h = go (position (λ j. k == j) xs) refl
  where
    go : (o : Option ℕ) → position (λ j. k == j) xs ≡ o → slice_get xs (option_map_or (λ i. i) o 0) ≡ Some k
    go None e =
        let p = place_of_element xs k h in
        let passes : k == k ≡ true = grind (arith, nat_tests) in
        absurd (position_missing (λ j. k == j) p.0 xs k e p.1 passes)
    go (Some i) e =
        let q = position_there (λ j. k == j) i xs e in
        let tells : k == q.element ≡ true = q.passes in
        let same : q.element ≡ k = grind (arith, nat_tests) in
        q.there ∙ ap Some same

-- a link with an optional declaration has an optional half
optional_half : (t : Tables) (k : ℕ) (link : LinkTable) → IsLink t k link → IsTrue (has_declaration covered.Optional link) → (m : LinkFacts) × (half_of t covered.Optional k ≡ Some m)
optional_half t k link is has =
    let m : LinkFacts = over covered.Optional (λ d. includes covered.Optional d) ((k, link) ∷ []) in (
      m,
      ap (λ (o : Option LinkTable). option_map_or (half_over covered.Optional k) o None) is ∙ ap (λ (b : Bool). cond {A = Option LinkFacts} b (Some m) None) has,
    )

-- each weak edge has its place among the weak links, its gate and its optional half
pub weak_whole : (t : Tables) → AreTables t → (b : Built) (k u w : ℕ) (l : LinkFacts) (halves : WeakFacts) → IsBuilt t b → slice_get b.edges k ≡ Some (u, w, weak_edge l halves) → IsWeakEdge t b l halves
weak_whole t tables b k u w l halves h at = by_entry (slice_get b.weak halves.index) refl
  where
    said : ∥ IsWeakSaid t (numbers b) l halves ∥₁
    said = ∥∥₁_map (says t b k (u, w, weak_edge l halves) h at) (λ s. weak_said t (numbers b) u w s.0 s.1.candidate l halves s.2)

    over_one : (s : IsWeakSaid t (numbers b) l halves) → l.package_links ≡ s.number ∷ []
    over_one s = ap (λ (z : LinkFacts). z.package_links) s.is ∙ alone s.number s.link (tables.declarations s.number s.link s.is_link)

    placed : (s : IsWeakSaid t (numbers b) l halves) → slice_get (numbers b) halves.index ≡ Some s.number
    placed s =
        let named : weak_link (weak_edge l halves) ≡ Some s.number = ap (λ (z : List ℕ). slice_get z 0) (over_one s) in
        let among : Contains (weak_links b.edges) s.number = into_first_ones (filter_map (λ e. weak_link e.2) b.edges) s.number (into_filter_map (λ (e : ℕ × ℕ × EdgeFacts). weak_link e.2) b.edges (u, w, weak_edge l halves) s.number (element_at_place b.edges k (u, w, weak_edge l halves) at) named) in
        let there : Contains (numbers b) s.number = subst (λ z. Contains z s.number) (sym h.edges.links) among in
        ap (λ (z : WeakFacts). slice_get (numbers b) z.index) s.are ∙ index_there (numbers b) s.number there

    apart : (s : IsWeakSaid t (numbers b) l halves) → slice_get b.weak halves.index ≡ None → ⊥
    apart s e =
        let there : option_map (λ (x : ℕ × ℕ). x.0) (slice_get b.weak halves.index) ≡ Some s.number = sym (slice_get-map (λ (x : ℕ × ℕ). x.0) b.weak halves.index) ∙ placed s in
        let none : ◌≡◌ {A = Option ℕ} None (Some s.number) = ap (option_map (λ (x : ℕ × ℕ). x.0)) (sym e) ∙ there in
        cc

    same_number : (x : ℕ × ℕ) → slice_get b.weak halves.index ≡ Some x → (s : IsWeakSaid t (numbers b) l halves) → s.number ≡ x.0
    same_number x e s =
        let there : option_map (λ (x : ℕ × ℕ). x.0) (slice_get b.weak halves.index) ≡ Some s.number = sym (slice_get-map (λ (x : ℕ × ℕ). x.0) b.weak halves.index) ∙ placed s in
        let both : ◌≡◌ {A = Option ℕ} (Some x.0) (Some s.number) = ap (option_map (λ (x : ℕ × ℕ). x.0)) (sym e) ∙ there in
        sym (got_same x.0 s.number both)

    list-set : IsSet (List ℕ)
    list-set = hlevel props

    no_half : (s : IsWeakSaid t (numbers b) l halves) → halves.optional ≡ None → ⊥
    no_half s e =
        let m = optional_half t s.number s.link s.is_link s.has in
        let there : halves.optional ≡ Some m.0 = ap (λ (z : WeakFacts). z.optional) s.are ∙ m.1 in
        cc

    by_half : (x : ℕ × ℕ) → slice_get b.weak halves.index ≡ Some x → (o : Option LinkFacts) → halves.optional ≡ o → IsWeakEdge t b l halves
    by_half x e None i = absurd (∥∥₁_elim said (λ p q. absurd p) (λ s. no_half s i))
    by_half x e (Some m) i =
        let gate = h.edges.gates halves.index x.0 x.1 e in
        let link = element_within t.links x.0 gate.within in
        record {
          number = x.0;
          gate = x.1;
          entry = e;
          link = link.0;
          is_link = link.1;
          is_gate = gate.node link.0 link.1;
          over = ∥∥₁_elim said (list-set _ _) (λ s. over_one s ∙ ap (λ (n : ℕ). n ∷ []) (same_number x e s));
          half = m;
          is_half = i;
        }

    by_entry : (o : Option (ℕ × ℕ)) → slice_get b.weak halves.index ≡ o → IsWeakEdge t b l halves
    by_entry None e = absurd (∥∥₁_elim said (λ p q. absurd p) (λ s. apart s e))
    by_entry (Some x) e = by_half x e halves.optional refl

-- the link of an offered half
link_there : (direction : DependencyDirection) (f : EdgeFacts) (h : Half) → IsTrue (has_half (asked direction f) h) → ((l : LinkFacts) (halves : WeakFacts) → f ≡ weak_edge l halves → (m : LinkFacts) × (halves.optional ≡ Some m)) → (l : LinkFacts) × (link_at f h ≡ Some l)
link_there direction base_edge h is halves = cc
link_there direction feature_edge h is halves = cc
link_there direction (colon_edge l) Full is halves = (l, refl)
link_there direction (colon_edge l) Required is halves = cc
link_there direction (colon_edge l) Optional is halves = cc
link_there direction (strong_edge l) Full is halves = (l, refl)
link_there direction (strong_edge l) Required is halves = cc
link_there direction (strong_edge l) Optional is halves = cc
link_there direction (weak_edge l w) Full is halves = cc
link_there direction (weak_edge l w) Required is halves = go w.required is
  where
    go : (o : Option LinkFacts) → IsTrue (is_some o) → (l : LinkFacts) × (o ≡ Some l)
    go None is = cc
    go (Some l) is = (l, refl)
link_there direction (weak_edge l w) Optional is halves = halves l w refl
link_there direction (section_edge l) Full is halves = (l, refl)
link_there direction (section_edge l) Required is halves = cc
link_there direction (section_edge l) Optional is halves = cc

pub offer_link : (t : Tables) → AreTables t → (b : Built) (direction : DependencyDirection) (e : ℕ) (h : Half) → IsBuilt t b → IsOffer (content_of direction b) e h → (l : LinkFacts) × IsLinkOf b e h l
offer_link t tables b direction e h built offer =
    let x = way_edge b direction e offer.way offer.is_way in
    let half : IsTrue (has_half (asked direction x.0.2) h) = subst (λ (z : Way). IsTrue (has_half z.ask h)) (sym x.2) offer.half in
    let weak : (l : LinkFacts) (halves : WeakFacts) → x.0.2 ≡ weak_edge l halves → (m : LinkFacts) × (halves.optional ≡ Some m) = λ l halves is.
    let w = weak_whole t tables b e x.0.0 x.0.1 l halves built (x.1 ∙ ap (λ z. Some (x.0.0, x.0.1, z)) is) in (w.half, w.is_half) in
    let l = link_there direction x.0.2 h half weak in
    (l.0, record { edge = x.0; is_edge = x.1; is_link = l.1 })
