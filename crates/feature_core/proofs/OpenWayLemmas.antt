-- The edges of a digraph as unconditional ways.
use Rattle.std.proofs.Common.{◌≡◌, ℕ, suc, ◌+◌, ◌-◌, ◌<◌, List, [], ◌∷◌, Some, None, length, get_or, map, refl, sym, ◌∙◌, ap, subst, arith}
use Rattle.std.specs.Prelude.{IsTrue, ◌==◌, slice_get}
use Rattle.std.specs.List.{range_with_len}
use Rattle.std.proofs.lemmas.List.{get_or-map}
use Rattle.std.proofs.lemmas.List.FromFn.{get_or-range_with_len, length-range_with_len}
use Rattle.std.proofs.lemmas.Option.{slice_get-map, slice_get_within, slice_get_read, slice_get_past, get_or_from_slice_get}
use Rattle.std.specs.Option.{option_map}
use Rattle.digraphs.specs.declared.digraph.Edge.{Edge}
use Rattle.digraphs.specs.Graph.{Graph, IsDigraph, sources, targets}
use Rattle.digraphs.specs.Rows.{places, places_from}
use Rattle.feature_edges.specs.guppy_packages.declared.direction.DependencyDirection.{DependencyDirection}
use Rattle.feature_edges.specs.guppy_packages.declared.direction.DependencyDirection.TheVariants.{Forward, Reverse}
use Rattle.walk_engine.specs.Walks.{Way, IsWay, EndsAreNodes, numbers_where, starting, is_gated}
use Rattle.feature_core.specs.inner.OpenWays.{open_way, open_ways}
use Rattle.feature_core.proofs.Answered.{clash}
use Rattle.feature_edges.proofs.Places.{got_map}

-- the ways that start at a node are the edges that leave it, or in reverse those that enter it
pub forward_numbers : (n first : ℕ) (es : List Edge) → numbers_where (λ w. w.start == n) first (map (open_way Forward) es) ≡ places_from n first (sources es)
forward_numbers n first [] = refl
forward_numbers n first (e ∷ es) = rw (forward_numbers n (suc first) es) refl

pub reverse_numbers : (n first : ℕ) (es : List Edge) → numbers_where (λ w. w.start == n) first (map (open_way Reverse) es) ≡ places_from n first (targets es)
reverse_numbers n first [] = refl
reverse_numbers n first (e ∷ es) = rw (reverse_numbers n (suc first) es) refl

-- a way is an edge, and each edge is a way
way_edge : (direction : DependencyDirection) (g : Graph) (k : ℕ) (w : Way) → IsWay (open_ways direction g) k w → (e : Edge) × (slice_get g.edges k ≡ Some e) × (open_way direction e ≡ w)
way_edge direction g k w is = got_map (open_way direction) (slice_get g.edges k) w (sym (slice_get-map (open_way direction) g.edges k) ∙ is)

pub edge_way : (direction : DependencyDirection) (g : Graph) (k : ℕ) (e : Edge) → slice_get g.edges k ≡ Some e → IsWay (open_ways direction g) k (open_way direction e)
edge_way direction g k e is = slice_get-map (open_way direction) g.edges k ∙ ap (option_map (open_way direction)) is

-- the edge at a place among those that leave a node
pub out_place : (g : Graph) (n start end place : ℕ) → range_with_len start (end - start) ≡ places n (sources g.edges) → place < end - start → Some (start + place) ≡ slice_get (starting (open_ways Forward g) n) place
out_place g n start end place same within =
    let range : List ℕ = range_with_len start (end - start) in
    let here : start + place ≡ get_or range place (start + place) = sym (get_or-range_with_len start (end - start) place (start + place) within) in
    let read : slice_get range place ≡ Some (start + place) = slice_get_read range (length range) place (start + place) refl (omega (arith, length-range_with_len start (end - start))) here in
    sym read ∙ ap (λ (xs : List ℕ). slice_get xs place) (same ∙ sym (forward_numbers n 0 g.edges))

pub out_past : (g : Graph) (n start end place : ℕ) → range_with_len start (end - start) ≡ places n (sources g.edges) → (place < end - start → ⊥) → None ≡ slice_get (starting (open_ways Forward g) n) place
out_past g n start end place same past =
    let range : List ℕ = range_with_len start (end - start) in
    let none : slice_get range place ≡ None = slice_get_past range place (omega (arith, length-range_with_len start (end - start))) in
    sym none ∙ ap (λ (xs : List ℕ). slice_get xs place) (same ∙ sym (forward_numbers n 0 g.edges))

-- both ends of a way are nodes
ways_within : (direction : DependencyDirection) (n : ℕ) (e : Edge) → e.from < n → e.to < n → ((open_way direction e).start < n) × ((open_way direction e).far < n) × (IsTrue (is_gated (open_way direction e).ask) → (open_way direction e).gate < n)
ways_within Forward n e from to = (from, to, λ t. absurd (clash t refl))
ways_within Reverse n e from to = (to, from, λ t. absurd (clash t refl))

pub ends_are_nodes : (direction : DependencyDirection) (g : Graph) → IsDigraph g → EndsAreNodes (open_ways direction g)
ends_are_nodes direction g sound k w is =
    let e = way_edge direction g k w is in
    let within : k < length g.edges = slice_get_within g.edges k e.0 e.1 in
    let same : get_or g.edges k e.0 ≡ e.0 = get_or_from_slice_get g.edges k e.0 e.0 e.1 in
    let from : get_or (sources g.edges) k 0 ≡ e.0.from = get_or-map (λ (x : Edge). x.from) g.edges k e.0 0 within ∙ ap (λ (x : Edge). x.from) same in
    let to : get_or (targets g.edges) k 0 ≡ e.0.to = get_or-map (λ (x : Edge). x.to) g.edges k e.0 0 within ∙ ap (λ (x : Edge). x.to) same in
    let nodes = (sound k within).nodes in
    subst (λ (v : Way). (v.start < g.nodes) × (v.far < g.nodes) × (IsTrue (is_gated v.ask) → v.gate < g.nodes)) e.2
    (ways_within direction g.nodes e.0 (subst (λ (x : ℕ). x < g.nodes) from nodes.from) (subst (λ (x : ℕ). x < g.nodes) to nodes.to))
