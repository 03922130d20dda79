-- The result of verifying a graph.
use Rattle.std.specs.Prelude.{◌≡◌, ◌<◌, ℕ, List, Some, IsTrue, IsFalse, slice_get}
use Rattle.guppy_packages.specs.Rows.{Text}
use Rattle.guppy_packages.specs.Tables.{Tables}
use Rattle.feature_labels.specs.Names.{LabelName}
use Rattle.feature_core.specs.Built.{NodeNamed}
use Rattle.feature_links.specs.Facts.{EdgeFacts, full_link, is_present, has_present_link}
use Rattle.feature_core.specs.Errors.{Refusal, unknown_package, unknown_feature, internal_error, no_memory}
use Rattle.feature_links.specs.Links.{LinkFacts}

-- the first edge whose link is present for no kind, from the feature named `from` to the feature named `to`
pub record IsFirstAbsent (t : Tables) (edges : List (ℕ × ℕ × EdgeFacts)) (from to : Text × LabelName) : Type 0 where
  pub place : ℕ
  pub edge : ℕ × ℕ × EdgeFacts
  pub at : slice_get edges place ≡ Some edge
  pub link : LinkFacts
  pub is_link : full_link edge.2 ≡ Some link
  pub absent : IsFalse (is_present link)
  pub before : (k : ℕ) (other : ℕ × ℕ × EdgeFacts) → k < place → slice_get edges k ≡ Some other → IsTrue (has_present_link other.2)
  pub from_node : NodeNamed t edge.0 from
  pub to_node : NodeNamed t edge.1 to

-- the error of a graph with such an edge
abbrev pub RefusesEdges : Tables → List (ℕ × ℕ × EdgeFacts) → Refusal → Type 0
RefusesEdges t edges (internal_error from to) = IsFirstAbsent t edges from to
RefusesEdges t edges (unknown_package id) = ⊥
RefusesEdges t edges (unknown_feature name) = ⊥
RefusesEdges t edges no_memory = ⊥
