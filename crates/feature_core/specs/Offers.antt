-- The offers of a feature graph, and their links.
use Rattle.std.specs.Prelude.{◌≡◌, ℕ, ◌∷◌, [], Some, IsTrue, length, slice_get}
use Rattle.feature_edges.specs.guppy_packages.Tables.{LinkTable, Tables}
use Rattle.feature_edges.specs.guppy_packages.declared.direction.DependencyDirection.{DependencyDirection}
use Rattle.feature_edges.specs.feature_labels.Names.LabelName.{optional}
use Rattle.walk_engine.specs.declared.walks.Half.{Half}
use Rattle.walk_engine.specs.Walks.{Way, Content, IsWay, has_half}
use Rattle.feature_core.specs.Built.{Built}
use Rattle.feature_edges.specs.feature_links.Facts.{WeakFacts, EdgeFacts, link_at}
use Rattle.feature_edges.specs.feature_links.Links.{LinkFacts, IsLink}
use Rattle.feature_edges.specs.Nodes.{NodeAt}
use Rattle.feature_core.specs.Ways.{content}

-- The ways that walks of a feature graph follow in a direction.
abbrev pub content_of : DependencyDirection → Built → Content
content_of direction b = content direction (length b.packages) b.edges b.weak

-- Half `h` of edge `e` is offered.
pub record IsOffer (c : Content) (e : ℕ) (h : Half) : Type 0 where
  pub way : Way
  pub is_way : IsWay c e way
  pub half : IsTrue (has_half way.ask h)

-- `l` is the link of edge `e`: its full link or that of a half.
pub record IsLinkOf (b : Built) (e : ℕ) (h : Half) (l : LinkFacts) : Type 0 where
  pub edge : ℕ × ℕ × EdgeFacts
  pub is_edge : slice_get b.edges e ≡ Some edge
  pub is_link : link_at edge.2 h ≡ Some l

-- Two offers lead from one node to another over the same declarations.
pub record HaveOneName (b : Built) (d : ℕ) (g : Half) (e : ℕ) (h : Half) : Type 0 where
  pub one : ℕ × ℕ × EdgeFacts
  pub is_one : slice_get b.edges d ≡ Some one
  pub other : ℕ × ℕ × EdgeFacts
  pub is_other : slice_get b.edges e ≡ Some other
  pub from : one.0 ≡ other.0
  pub to : one.1 ≡ other.1
  pub link : LinkFacts
  pub is_link : link_at one.2 g ≡ Some link
  pub other_link : LinkFacts
  pub is_other_link : link_at other.2 h ≡ Some other_link
  pub declarations : link.declarations ≡ other_link.declarations

-- A weak edge. Its index is that of its package link, whose gate is the optional dependency of the link's name in its source. Its
-- optional half has a link.
pub record IsWeakEdge (t : Tables) (b : Built) (l : LinkFacts) (halves : WeakFacts) : Type 0 where
  pub number : ℕ
  pub gate : ℕ
  pub entry : slice_get b.weak halves.index ≡ Some (number, gate)
  pub link : LinkTable
  pub is_link : IsLink t number link
  pub is_gate : NodeAt t gate link.from (optional link.name)
  pub over : l.package_links ≡ number ∷ []
  pub half : LinkFacts
  pub is_half : halves.optional ≡ Some half
