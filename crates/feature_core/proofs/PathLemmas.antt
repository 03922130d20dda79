-- Paths over the edges of the digraph, and reach over candidates.
use Rattle.std.proofs.Common.{◌≡◌, ℕ, List, map, refl, sym, ap, ap₂, ◌∙◌, subst}
use Rattle.std.specs.Prelude.{◌↔◌, Contains}
use Rattle.std.proofs.lemmas.Bool.{eqb-true, eq-eqb}
use Rattle.digraphs.specs.declared.digraph.Edge.{Edge}
use Rattle.digraphs.specs.Paths.{HasEdge, Path, nowhere as ended, onward as along}
use Rattle.feature_edges.specs.guppy_packages.Tables.{Tables}
use Rattle.feature_edges.specs.guppy_packages.declared.direction.DependencyDirection.TheVariants.{Forward, Reverse}
use Rattle.walk_engine.specs.Laws.{only}
use Rattle.feature_edges.specs.feature_links.Facts.{EdgeFacts}
use Rattle.feature_core.specs.Built.{Built, IsBuilt, digraph_of, end_of, ends_of}
use Rattle.feature_edges.specs.Pairs.{Along, nowhere, onward, LeadsTo, HasCandidate, Reach}
use Rattle.feature_edges.proofs.PushLemmas.{from_map, into_map}
use Rattle.guppy_support.proofs.AlongLemmas.{along_more}

-- ---- an edge of the digraph is a candidate

pair_of_edge : (es : List (ℕ × ℕ × EdgeFacts)) (u w : ℕ) → HasEdge (map end_of es) u w → Contains (ends_of es) (u, w)
pair_of_edge es u w h =
    let x = from_map end_of es h.edge h.listed in
    let from : x.0.0 ≡ u = ap (λ (e : Edge). e.from) x.2 ∙ h.from in
    let to : x.0.1 ≡ w = ap (λ (e : Edge). e.to) x.2 ∙ h.to in
    subst (Contains (ends_of es)) (ap₂ (λ (a b : ℕ). (a, b)) from to) (into_map (λ (y : ℕ × ℕ × EdgeFacts). (y.0, y.1)) es x.0 x.1)

edge_of_pair : (es : List (ℕ × ℕ × EdgeFacts)) (u w : ℕ) → Contains (ends_of es) (u, w) → HasEdge (map end_of es) u w
edge_of_pair es u w h =
    let x = from_map (λ (y : ℕ × ℕ × EdgeFacts). (y.0, y.1)) es (u, w) h in
    record { edge = end_of x.0; listed = into_map end_of es x.0 x.1; from = ap (λ z. z.0) x.2; to = ap (λ z. z.1) x.2 }

-- ---- one step more at the end

path_more : (es : List Edge) (a b c : ℕ) → Path es a b → HasEdge es b c → Path es a c
path_more es a b c (ended {a = u}) e = along e ended
path_more es a b c (along {a = u} {b = v} {c = w} f rest) e = along f (path_more es v w c rest e)

-- ---- both directions

module _ (t : Tables) (b : Built) (h : IsBuilt t b) where
  leads : (u w : ℕ) → HasEdge (digraph_of b).edges u w → HasCandidate t u w
  leads u w e = (h.pairs.exact u w).0 (pair_of_edge b.edges u w e)

  edge : (u w : ℕ) → HasCandidate t u w → HasEdge (digraph_of b).edges u w
  edge u w c = edge_of_pair b.edges u w ((h.pairs.exact u w).1 c)

  forth : (a n : ℕ) → Path (digraph_of b).edges a n → Along (LeadsTo t Forward) a n
  forth a n (ended {a = u}) = nowhere
  forth a n (along {a = u} {b = v} {c = w} e rest) = onward (leads u v e) (forth v w rest)

  of_forth : (a n : ℕ) → Along (LeadsTo t Forward) a n → Path (digraph_of b).edges a n
  of_forth a n (nowhere {u = u}) = ended
  of_forth a n (onward {u = u} {v = v} {w = w} s rest) = along (edge u v s) (of_forth v w rest)

  back : (n a : ℕ) → Path (digraph_of b).edges n a → Along (LeadsTo t Reverse) a n
  back n a (ended {a = u}) = nowhere
  back n a (along {a = u} {b = v} {c = w} e rest) = along_more (back v w rest) (leads u v e)

  of_back : (a n : ℕ) → Along (LeadsTo t Reverse) a n → Path (digraph_of b).edges n a
  of_back a n (nowhere {u = u}) = ended
  of_back a n (onward {u = u} {v = v} {w = w} s rest) = path_more (digraph_of b).edges w v u (of_back v w rest) (edge v u s)

pub reach_forth : (t : Tables) (b : Built) (a n : ℕ) → IsBuilt t b → Path (digraph_of b).edges a n ↔ Reach t Forward (only a) n
reach_forth t b a n h = (
  (λ p. (a, eq-eqb a a refl, forth t b h a n p)),
  (λ r. subst (λ z. Path (digraph_of b).edges z n) (sym (eqb-true a r.0 r.1)) (of_forth t b h r.0 n r.2)),
)

pub reach_back : (t : Tables) (b : Built) (a n : ℕ) → IsBuilt t b → Path (digraph_of b).edges n a ↔ Reach t Reverse (only a) n
reach_back t b a n h = (
  (λ p. (a, eq-eqb a a refl, back t b h n a p)),
  (λ r. subst (λ z. Path (digraph_of b).edges n z) (sym (eqb-true a r.0 r.1)) (of_back t b h r.0 n r.2)),
)
