-- The content that walks of a feature graph follow, and its reach.
use Rattle.std.proofs.Common.{◌≡◌, ℕ, ◌+◌, ◌<◌, List, [], ◌∷◌, length, map, Bool, true, false, Option, Some, refl, ap, sym, ◌∙◌, subst, arith, length-append}
use Rattle.std.specs.Prelude.{slice_get, flat_map, IsTrue, IsFalse, ◌↔◌}
use Rattle.std.specs.Option.{option_map_or}
use Rattle.std.proofs.Math.Logic.{∥∥₁_elim}
use Rattle.std.proofs.Props.{props}
use Rattle.std.proofs.lemmas.List.{length-map}
use Rattle.feature_edges.specs.guppy_packages.Tables.{Tables, AreTables}
use Rattle.feature_edges.specs.guppy_packages.declared.direction.DependencyDirection.{DependencyDirection}
use Rattle.feature_edges.specs.guppy_packages.declared.direction.DependencyDirection.TheVariants.{Forward, Reverse}
use Rattle.feature_edges.specs.feature_labels.Names.LabelName.{optional}
use Rattle.walk_engine.specs.declared.walks.Ask.{Ask}
use Rattle.walk_engine.specs.declared.walks.Ask.TheVariants as asks
use Rattle.walk_engine.specs.Laws.{every, AreReverse, IsUngated}
use Rattle.walk_engine.specs.Walks.{Way, Path, EndsAreNodes, is_gated, is_open, Reach as ReachOver}
use Rattle.feature_core.specs.Built.{Built, IsBuilt}
use Rattle.feature_edges.specs.feature_links.Facts.{EdgeFacts, base_edge, feature_edge, colon_edge, strong_edge, weak_edge, section_edge}
use Rattle.feature_edges.specs.Nodes.{labels_of, spread, nodes, node_places, node_packages}
use Rattle.feature_core.specs.Offers.{content_of}
use Rattle.feature_edges.specs.Pairs.{Along, nowhere, onward, LeadsTo, Reach}
use Rattle.feature_core.specs.Ways.{way, asked, gate_at, gate_of, start_of, far_of}
use Rattle.feature_edges.proofs.AddsLemmas.{element_at_place, place_of_element}
pub use Rattle.feature_edges.proofs.CandidateNodes.{at_node, candidate_within}
use Rattle.feature_core.proofs.OfferLemmas.{way_edge, edge_way, weak_whole}
use Rattle.feature_edges.proofs.PushLemmas.{from_map, into_map}

length-spread : {A B : Type 0} (f : A → List B) (q : ℕ) (xs : List A) → length (spread f q xs) ≡ length (flat_map f xs)
length-spread f q [] = refl
length-spread {A} {B} f q (x ∷ xs) =
    let row : length (map {B = ℕ × B} (λ y. (q, y)) (f x)) ≡ length (f x) = length-map (f x) (λ y. (q, y)) in
    length-append (map {B = ℕ × B} (λ y. (q, y)) (f x)) (spread f (q + 1) xs)
    ∙ ap (λ n. n + length (spread f (q + 1) xs)) row
    ∙ ap (λ n. length (f x) + n) (length-spread f (q + 1) xs)
    ∙ sym (length-append (f x) (flat_map f xs))

length-renamed : {A B C : Type 0} (f : A → List B) (g : A → B → C) (xs : List A) → length (flat_map (λ x. map (g x) (f x)) xs) ≡ length (flat_map f xs)
length-renamed f g [] = refl
length-renamed f g (x ∷ xs) =
    length-append (map (g x) (f x)) (flat_map (λ y. map (g y) (f y)) xs)
    ∙ ap (λ n. n + length (flat_map (λ y. map (g y) (f y)) xs)) (length-map (f x) (g x))
    ∙ ap (λ n. length (f x) + n) (length-renamed f g xs)
    ∙ sym (length-append (f x) (flat_map f xs))

-- there are as many packages of nodes as names of nodes
node_count : (t : Tables) → length (node_packages t) ≡ length (nodes t)
node_count t =
    length-map (node_places t) (λ x. x.0)
    ∙ length-spread labels_of 0 t.packages
    ∙ sym (length-renamed labels_of (λ p l. (p.id, l)) t.packages)

pub built_count : (t : Tables) (b : Built) → IsBuilt t b → length b.packages ≡ length (nodes t)
built_count t b h = ap length h.packages ∙ node_count t

-- the nodes of an edge are nodes of the graph
edge_within : (t : Tables) (b : Built) → IsBuilt t b → (k : ℕ) (x : ℕ × ℕ × EdgeFacts) → slice_get b.edges k ≡ Some x → (x.0 < length b.packages) × (x.1 < length b.packages)
edge_within t b h k x at =
    let c = (h.pairs.exact x.0 x.1).0 (into_map (λ y. (y.0, y.1)) b.edges x (element_at_place b.edges k x at)) in
    let both : IsProp ((x.0 < length b.packages) × (x.1 < length b.packages)) = hlevel props in
    let long : length b.packages ≡ length (node_packages t) = ap length h.packages in
    ∥∥₁_elim c both (λ d. let w = candidate_within t x.0 x.1 d.0 d.1 in (omega (arith, w.0, long), omega (arith, w.1, long)))

ends_within : (t : Tables) (b : Built) → IsBuilt t b → (direction : DependencyDirection) (k : ℕ) (x : ℕ × ℕ × EdgeFacts) → slice_get b.edges k ≡ Some x → (start_of direction x < length b.packages) × (far_of direction x < length b.packages)
ends_within t b h Forward k x at = edge_within t b h k x at
ends_within t b h Reverse k x at = let w = edge_within t b h k x at in (w.1, w.0)

-- a gate is a node
gate_within : (t : Tables) → AreTables t → (b : Built) → IsBuilt t b → (direction : DependencyDirection) (k u w : ℕ) (f : EdgeFacts) → slice_get b.edges k ≡ Some (u, w, f) → IsTrue (is_gated (asked direction f)) → option_map_or (λ gate. gate) (gate_of b.weak f) 0 < length b.packages
gate_within t tables b h direction k u w base_edge at is = cc
gate_within t tables b h direction k u w feature_edge at is = cc
gate_within t tables b h direction k u w (colon_edge l) at is = cc
gate_within t tables b h direction k u w (strong_edge l) at is = cc
gate_within t tables b h direction k u w (weak_edge l halves) at is =
    let s = weak_whole t tables b k u w l halves h at in
    let gate : gate_at b.weak halves.index ≡ s.gate = ap (λ (o : Option (ℕ × ℕ)). option_map_or (λ x. x.1) o 0) s.entry in
    let below = at_node t s.gate s.link.from (optional s.link.name) s.is_gate in
    let long : length b.packages ≡ length (node_packages t) = ap length h.packages in
    omega (arith, gate, below, long)
gate_within t tables b h direction k u w (section_edge l) at is = cc

pub ends_are_nodes : (t : Tables) → AreTables t → (b : Built) (direction : DependencyDirection) → IsBuilt t b → EndsAreNodes (content_of direction b)
ends_are_nodes t tables b direction h e w at =
    let x = way_edge b direction e w at in
    let ends = ends_within t b h direction e x.0 x.1 in
    let P : Way → Type 0 = λ z. (z.start < length b.packages) × (z.far < length b.packages) × (IsTrue (is_gated z.ask) → z.gate < length b.packages) in
    subst P x.2 (ends.0, ends.1, gate_within t tables b h direction e x.0.0 x.0.1 x.0.2 x.1)

-- the two directions are each other's reverse
pub forward_reverse : (b : Built) → AreReverse (content_of Forward b) (content_of Reverse b)
forward_reverse b = record {
  nodes = refl;
  forth = λ e w at. let x = way_edge b Forward e w at in (way Reverse b.weak x.0, edge_way b Reverse e x.0 x.1, ap (λ (z : Way). z.far) x.2, ap (λ (z : Way). z.start) x.2);
  back = λ e w at. let x = way_edge b Reverse e w at in (way Forward b.weak x.0, edge_way b Forward e x.0 x.1, ap (λ (z : Way). z.far) x.2, ap (λ (z : Way). z.start) x.2);
}

pub reverse_forward : (b : Built) → AreReverse (content_of Reverse b) (content_of Forward b)
reverse_forward b = let r = forward_reverse b in record { nodes = refl; forth = r.back; back = r.forth }

not_gated : (f : EdgeFacts) → is_gated (asked Reverse f) ≡ false
not_gated base_edge = refl
not_gated feature_edge = refl
not_gated (colon_edge l) = refl
not_gated (strong_edge l) = refl
not_gated (weak_edge l halves) = refl
not_gated (section_edge l) = refl

pub reverse_ungated : (b : Built) → IsUngated (content_of Reverse b)
reverse_ungated b e w at = let x = way_edge b Reverse e w at in subst (λ (z : Way). IsFalse (is_gated z.ask)) x.2 (not_gated x.0.2)

-- if all offers are accepted, every way is open
always_open : (e : ℕ) (ask : Ask) → IsTrue (is_open every e ask)
always_open e asks.Nobody = refl
always_open e asks.Full = refl
always_open e (asks.Weak true gated) = refl
always_open e (asks.Weak false gated) = refl

-- an edge leads in this direction
edge_leads : (t : Tables) (b : Built) → IsBuilt t b → (direction : DependencyDirection) (k : ℕ) (x : ℕ × ℕ × EdgeFacts) → slice_get b.edges k ≡ Some x → LeadsTo t direction (start_of direction x) (far_of direction x)
edge_leads t b h Forward k x at = (h.pairs.exact x.0 x.1).0 (into_map (λ y. (y.0, y.1)) b.edges x (element_at_place b.edges k x at))
edge_leads t b h Reverse k x at = (h.pairs.exact x.0 x.1).0 (into_map (λ y. (y.0, y.1)) b.edges x (element_at_place b.edges k x at))

path_along : (t : Tables) (b : Built) → IsBuilt t b → (direction : DependencyDirection) (a : ℕ) (es : List ℕ) (n : ℕ) → Path (content_of direction b) every a es n → Along (LeadsTo t direction) a n
path_along t b h direction a [] n p = subst (λ z. Along (LeadsTo t direction) a z) p nowhere
path_along t b h direction a (e ∷ es) n p =
    let w = p.0 in
    let x = way_edge b direction e w p.1 in
    let step : LeadsTo t direction w.start w.far = subst (λ (z : Way). LeadsTo t direction z.start z.far) x.2 (edge_leads t b h direction e x.0 x.1) in
    onward (subst (λ z. LeadsTo t direction z w.far) p.2 step) (path_along t b h direction w.far es n p.4)

-- a step is over some edge
record IsStep (b : Built) (direction : DependencyDirection) (u w : ℕ) : Type 0 where
  place : ℕ
  edge : ℕ × ℕ × EdgeFacts
  is_edge : slice_get b.edges place ≡ Some edge
  from : start_of direction edge ≡ u
  to : far_of direction edge ≡ w

step_of : (t : Tables) (b : Built) → IsBuilt t b → (direction : DependencyDirection) (u w : ℕ) → LeadsTo t direction u w → IsStep b direction u w
step_of t b h Forward u w leads =
    let x = from_map (λ (y : ℕ × ℕ × EdgeFacts). (y.0, y.1)) b.edges (u, w) ((h.pairs.exact u w).1 leads) in
    let k = place_of_element b.edges x.0 x.1 in
    record { place = k.0; edge = x.0; is_edge = k.1; from = ap (λ z. z.0) x.2; to = ap (λ z. z.1) x.2 }
step_of t b h Reverse u w leads =
    let x = from_map (λ (y : ℕ × ℕ × EdgeFacts). (y.0, y.1)) b.edges (w, u) ((h.pairs.exact w u).1 leads) in
    let k = place_of_element b.edges x.0 x.1 in
    record { place = k.0; edge = x.0; is_edge = k.1; from = ap (λ z. z.1) x.2; to = ap (λ z. z.0) x.2 }

along_path : (t : Tables) (b : Built) → IsBuilt t b → (direction : DependencyDirection) (a n : ℕ) → Along (LeadsTo t direction) a n → (es : List ℕ) × Path (content_of direction b) every a es n
along_path t b h direction a n (nowhere {u = u}) = ([], refl)
along_path t b h direction a n (onward {u = u} {v = v} {w = w} step rest) =
    let s = step_of t b h direction u v step in
    let r = along_path t b h direction v w rest in
    let e : Way = way direction b.weak s.edge in
    (s.place ∷ r.0, (e, edge_way b direction s.place s.edge s.is_edge, s.from, always_open s.place e.ask, subst (λ z. Path (content_of direction b) every z r.0 w) (sym s.to) r.1))

pub reach_tables : (t : Tables) (b : Built) (direction : DependencyDirection) (initials : ℕ → Bool) (n : ℕ) → IsBuilt t b → ReachOver (content_of direction b) initials every n ↔ Reach t direction initials n
reach_tables t b direction initials n h = (
  (λ r. (r.0, r.2, path_along t b h direction r.0 r.1 n r.3)),
  (λ r. let p = along_path t b h direction r.0 n r.2 in (r.0, p.0, r.1, p.1)),
)
