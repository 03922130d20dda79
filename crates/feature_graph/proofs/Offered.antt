-- The offers of a graph, and their links.
use Rattle.std.proofs.Common.{◌≡◌, ◌∙◌, ap, refl, ℕ, ◌<◌, Bool, List, Option, Some, None, length}
use Rattle.std.specs.Prelude.{IsTrue, slice_get, slice_index_or}
use Rattle.std.specs.Option.{is_some, option_map, option_map_or}
use Rattle.std.proofs.lemmas.Option.{slice_get-get_or, slice_get-map}
use Rattle.guppy_packages.specs.Tables.{Tables}
use Rattle.feature_links.specs.Facts.{EdgeFacts, link_at}
use Rattle.feature_links.specs.Links.{LinkFacts}
use Rattle.feature_core.specs.Offers.{content_of, IsOffer, IsLinkOf}
use Rattle.walk_engine.specs.declared.walks.Half.{Half}
use Rattle.walk_engine.specs.Walks.{Way, IsWay, EndsAreNodes, has_half}
use Rattle.guppy_packages.specs.declared.direction.DependencyDirection.{DependencyDirection}
use Rattle.guppy_packages.specs.declared.direction.DependencyDirection.TheVariants.{Forward}
use Rattle.feature_core.specs.Built.{Built, IsBuilt}
use Rattle.feature_graph.specs.LinkValues.{has_facts}
use Rattle.feature_core.specs.Nodes.{nodes}
use Rattle.feature_core.specs.Ways.{Reading, way}
use Rattle.feature_graph.specs.Values.{Graph, Set, Query}
use Rattle.feature_graph.specs.Visits.{query_content, offered}

-- the law of offers, for the tables of one graph
abbrev pub OffersAreLinks : Tables → Type 0
OffersAreLinks t = (b : Built) (direction : DependencyDirection) (e : ℕ) (h : Half) → IsBuilt t b → IsOffer (content_of direction b) e h → (l : LinkFacts) × IsLinkOf b e h l

-- each offer has a link
pub offer_stands : (q : Query) → OffersAreLinks q.graph.tables → IsBuilt q.graph.tables q.graph.built → (e : ℕ) (h : Half) (w : Way) → IsWay (query_content q) e w → IsTrue (has_half w.ask h) → IsTrue (has_facts (offered q.graph e h))
offer_stands q law built e h w is half =
    let found = law q.graph.built q.direction e h built (record { way = w; is_way = is; half = half }) in
    let edge = ap {B = Option LinkFacts} (λ o. option_map_or (λ x. link_at x.2 h) o None) found.1.is_edge in
    ap is_some (edge ∙ found.1.is_link)

-- a link's facts are those of its edge
pub link_stands : (b : Built) (e : ℕ) (h : Half) (l : LinkFacts) → option_map_or (λ x. link_at x.2 h) (slice_get b.edges e) None ≡ Some l → IsLinkOf b e h l
link_stands b e h l is = go (slice_get b.edges e) refl is
  where
    go : (o : Option (ℕ × ℕ × EdgeFacts)) → slice_get b.edges e ≡ o → option_map_or (λ x. link_at x.2 h) o None ≡ Some l → IsLinkOf b e h l
    go None at i = cc
    go (Some x) at i = record { edge = x; is_edge = at; is_link = i }

-- the two nodes of an edge are nodes of the graph
pub link_ends : (b : Built) → EndsAreNodes (content_of Forward b) → (k : ℕ) (e : ℕ × ℕ × EdgeFacts) → slice_get b.edges k ≡ Some e → (e.0 < length b.packages) × (e.1 < length b.packages)
link_ends b ends k e at =
    let w = ends k (way Forward b.weak e) (slice_get-map (way Forward b.weak) b.edges k ∙ ap (option_map (way Forward b.weak)) at) in
    (w.0, w.1)

-- numbers below a bound, read with a default
pub all_below : (numbers : List ℕ) (n : ℕ) → ((i k : ℕ) → slice_get numbers i ≡ Some k → k < n) → (k d : ℕ) → k < length numbers → slice_index_or numbers k d < n
all_below numbers n each k d h = each k (slice_index_or numbers k d) (slice_get-get_or numbers k d h)

-- a query is determined by its parts
pub query_parts : (q : Query) (g : Graph) (d : DependencyDirection) (s : Set) (marks : List Bool) → g ≡ q.graph → d ≡ q.direction → s ≡ record { graph = q.graph; members = q.initials } → marks ≡ s.members
    → ◌≡◌ {A = Query} (record { graph = g; direction = d; initials = marks }) q
query_parts q g d s marks graph direction set members = λ i. record { graph = graph i; direction = direction i; initials = (members ∙ ap (λ x. x.members) set) i }

pub content_is : (p q r : Query) (reading : Reading) → p ≡ q → q ≡ r → reading ≡ record { holds = query_content p; reads = 0 } → reading.holds ≡ query_content r
content_is p q r reading first second is = ap (λ x. x.holds) is ∙ ap query_content (first ∙ second)

-- a reading has as many nodes as the graph has features
pub nodes_are : (p q r : Query) (reading : Reading) → p ≡ q → q ≡ r → length p.graph.built.packages ≡ length (nodes p.graph.tables) → reading ≡ record { holds = query_content p; reads = 0 } → reading.holds.nodes ≡ length (nodes r.graph.tables)
nodes_are p q r reading first second count is = ap (λ x. x.holds.nodes) is ∙ count ∙ ap (λ x. length (nodes x.graph.tables)) (first ∙ second)
