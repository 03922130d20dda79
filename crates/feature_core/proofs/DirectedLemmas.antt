-- The content of the edges as one direction follows them.
use Rattle.std.proofs.Common.{◌≡◌, ℕ, suc, ◌<◌, Bool, List, [], ◌∷◌, Option, Some, length, map, refl, sym, ◌∙◌, ap, subst, arith}
use Rattle.std.specs.Prelude.{IsTrue, ◌==◌, slice_get}
use Rattle.std.specs.Option.{option_map, option_map_or}
use Rattle.std.proofs.lemmas.List.{length-map}
use Rattle.std.proofs.lemmas.Option.{slice_get-map, slice_get_within}
use Rattle.digraphs.specs.declared.digraph.Edge.{Edge}
use Rattle.digraphs.specs.Graph.{Graph, IsDigraph}
use Rattle.feature_edges.specs.guppy_packages.declared.direction.DependencyDirection.{DependencyDirection}
use Rattle.feature_edges.specs.guppy_packages.declared.direction.DependencyDirection.TheVariants.{Forward, Reverse}
use Rattle.walk_engine.specs.declared.walks.Taken.{Taken}
use Rattle.walk_engine.specs.Walks.{Way, EndsAreNodes, numbers_where, starting, releasing, told, taken_of, is_gated}
use Rattle.walk_checks.specs.Tables.{Tells}
use Rattle.walk_checks.specs.declared.table.TableEdge.{TableEdge}
use Rattle.feature_edges.specs.feature_links.Facts.{EdgeFacts}
use Rattle.feature_core.specs.Built.{built_edges}
use Rattle.feature_core.specs.Ways.{asked, gate_of, way, content, GatesAreNodes}
use Rattle.feature_core.specs.inner.Releases.{AreTied, released_place}
use Rattle.feature_core.specs.inner.OpenWays.{open_way, open_ways}
use Rattle.feature_edges.proofs.Places.{got_map}
use Rattle.feature_core.proofs.WayNumbers.{number_way}
use Rattle.feature_core.proofs.OpenWayLemmas.{ends_are_nodes, edge_way}
use Rattle.feature_core.proofs.PackedLemmas.{built_edge_at, edge_of_facts, length-built_edges, none_waits, releases_same, gate_within}

-- the edge at a place among those that wait for the gate
pub release_told : (direction : DependencyDirection) (g : Graph) (fs : List EdgeFacts) (weak released : List (ℕ × ℕ)) (gate place : ℕ) (found : Option ℕ) → AreTied g fs weak released → found ≡ released_place released direction gate place → slice_get (releasing (content direction g.nodes (built_edges g.edges fs) weak) gate) place ≡ found
release_told Forward g fs weak released gate place found tied is = ap (λ (xs : List ℕ). slice_get xs place) (sym (releases_same g.nodes gate g fs weak released tied)) ∙ sym is
release_told Reverse g fs weak released gate place found tied is = ap (λ (xs : List ℕ). slice_get xs place) (none_waits weak gate 0 g.edges fs) ∙ sym is

module _ (weak : List (ℕ × ℕ)) where
  -- the edges that start at a node are those of the digraph
  starts_same : (direction : DependencyDirection) (n first : ℕ) (es : List Edge) (fs : List EdgeFacts) → length fs ≡ length es → numbers_where (λ w. w.start == n) first (map (way direction weak) (built_edges es fs)) ≡ numbers_where (λ w. w.start == n) first (map (open_way direction) es)
  starts_same direction n first [] fs l = refl
  starts_same direction n first (e ∷ es) [] l = absurd (omega arith)
  starts_same Forward n first (e ∷ es) (f ∷ fs) l = rw (starts_same Forward n (suc first) es fs (omega arith)) refl
  starts_same Reverse n first (e ∷ es) (f ∷ fs) l = rw (starts_same Reverse n (suc first) es fs (omega arith)) refl

  pub take_told : (direction : DependencyDirection) (g : Graph) (fs : List EdgeFacts) (n place : ℕ) (found : Option ℕ) → length fs ≡ length g.edges → found ≡ slice_get (starting (open_ways direction g) n) place → slice_get (starting (content direction g.nodes (built_edges g.edges fs) weak) n) place ≡ found
  take_told direction g fs n place found each is = ap (λ (xs : List ℕ). slice_get xs place) (starts_same direction n 0 g.edges fs each) ∙ sym is

  -- a number of a list of ways is the number of an edge
  pub number_below : (direction : DependencyDirection) (g : Graph) (fs : List EdgeFacts) (p : Way → Bool) (place k : ℕ) → length fs ≡ length g.edges → slice_get (numbers_where p 0 (map (way direction weak) (built_edges g.edges fs))) place ≡ Some k → k < length g.edges
  number_below direction g fs p place k each is =
      let edges = built_edges g.edges fs in
      let found = number_way p 0 (map (way direction weak) edges) place k is in
      let within : found.0 < length (map (way direction weak) edges) = slice_get_within (map (way direction weak) edges) found.0 found.2.0 found.2.1 in
      omega (arith, found.1, length-map edges (way direction weak), length-built_edges g.edges fs each)

  pub way_at : (direction : DependencyDirection) (es : List Edge) (fs : List EdgeFacts) (k : ℕ) (e : Edge) (f : EdgeFacts) → slice_get es k ≡ Some e → slice_get fs k ≡ Some f → slice_get (map (way direction weak) (built_edges es fs)) k ≡ Some (way direction weak (e.from, e.to, f))
  way_at direction es fs k e f p q = slice_get-map (way direction weak) (built_edges es fs) k ∙ ap (option_map (way direction weak)) (built_edge_at k es fs e f p q)

  -- the edge as a walk takes it
  pub told_of : (direction : DependencyDirection) (nodes : ℕ) (es : List Edge) (fs : List EdgeFacts) (k : ℕ) (e : Edge) (f : EdgeFacts) → slice_get es k ≡ Some e → slice_get fs k ≡ Some f → ◌≡◌ {A = Option Taken} (Some (record { edge = k; far = (open_way direction e).far; ask = asked direction f })) (told (content direction nodes (built_edges es fs) weak) (Some k))
  told_of Forward nodes es fs k e f p q = sym (ap (taken_of k) (way_at Forward es fs k e f p q))
  told_of Reverse nodes es fs k e f p q = sym (ap (taken_of k) (way_at Reverse es fs k e f p q))

  -- the edge as a table returns it
  pub tells_of : (direction : DependencyDirection) (nodes : ℕ) (es : List Edge) (fs : List EdgeFacts) (k : ℕ) (e : Edge) (f : EdgeFacts) (edge : TableEdge) → slice_get es k ≡ Some e → slice_get fs k ≡ Some f
      → edge.start ≡ (open_way direction e).start → edge.far ≡ (open_way direction e).far → edge.ask ≡ asked direction f → edge.gate ≡ option_map_or (λ gate. gate) (gate_of weak f) 0
      → Tells (slice_get (content direction nodes (built_edges es fs) weak).ways k) (Some edge)
  tells_of Forward nodes es fs k e f edge p q start far ask gate = subst (λ o. Tells o (Some edge)) (sym (way_at Forward es fs k e f p q)) (record { start = start; far = far; ask = ask; gate = λ _. gate })
  tells_of Reverse nodes es fs k e f edge p q start far ask gate = subst (λ o. Tells o (Some edge)) (sym (way_at Reverse es fs k e f p q)) (record { start = start; far = far; ask = ask; gate = λ _. gate })

  ways_within : (direction : DependencyDirection) (nodes : ℕ) (x : ℕ × ℕ × EdgeFacts) → x.0 < nodes → x.1 < nodes → option_map_or (λ gate. gate) (gate_of weak x.2) 0 < nodes → ((way direction weak x).start < nodes) × ((way direction weak x).far < nodes) × (IsTrue (is_gated (way direction weak x).ask) → (way direction weak x).gate < nodes)
  ways_within Forward nodes x a b h = (a, b, λ _. h)
  ways_within Reverse nodes x a b h = (b, a, λ _. h)

  -- the ends of every way are nodes
  pub content_ends : (direction : DependencyDirection) (g : Graph) (fs : List EdgeFacts) → IsDigraph g → GatesAreNodes g.nodes weak → EndsAreNodes (content direction g.nodes (built_edges g.edges fs) weak)
  content_ends direction g fs sound gates k w is =
      let x = got_map (way direction weak) (slice_get (built_edges g.edges fs) k) w (sym (slice_get-map (way direction weak) (built_edges g.edges fs) k) ∙ is) in
      let e = edge_of_facts k g.edges fs x.0 x.1 in
      let ends = ends_are_nodes Forward g sound k (open_way Forward e.0) (edge_way Forward g k e.0 e.1) in
      let from : x.0.0 < g.nodes = subst (λ (n : ℕ). n < g.nodes) e.2 ends.0 in
      let to : x.0.1 < g.nodes = subst (λ (n : ℕ). n < g.nodes) e.3 ends.1 in
      subst (λ (v : Way). (v.start < g.nodes) × (v.far < g.nodes) × (IsTrue (is_gated v.ask) → v.gate < g.nodes)) x.2
      (ways_within direction g.nodes x.0 from to (gate_within weak g.nodes x.0.2 (omega arith) gates))

  pub content_length : (direction : DependencyDirection) (g : Graph) (fs : List EdgeFacts) → length fs ≡ length g.edges → length g.edges ≡ length (map (way direction weak) (built_edges g.edges fs))
  content_length direction g fs each = sym (length-map (built_edges g.edges fs) (way direction weak) ∙ length-built_edges g.edges fs each)
