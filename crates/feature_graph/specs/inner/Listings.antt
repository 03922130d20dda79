-- Steps and offers that have names in a graph.
use Rattle.std.specs.Prelude.{◌≡◌, ℕ, Bool, List, IsTrue, All, length}
use Rattle.std.specs.Option.{is_some}
use Rattle.digraphs.specs.Bits.{has}
use Rattle.guppy_packages.specs.declared.direction.DependencyDirection.{DependencyDirection}
use Rattle.feature_core.specs.Nodes.{nodes}
use Rattle.feature_core.specs.Offers.{content_of}
use Rattle.walk_engine.specs.declared.walks.Half.{Half}
use Rattle.walk_engine.specs.declared.walks.Step.{Step}
use Rattle.walk_checks.specs.Exact.{IsExplainedRun}
use Rattle.feature_graph.specs.Told.{offer_told}
use Rattle.feature_graph.specs.Values.{Graph}

-- each offer has a name
abbrev pub AreOffered : Graph → List (ℕ × Half) → Type 0
AreOffered g offers = All (λ offer. IsTrue (is_some (offer_told g offer))) offers

-- the steps and refused offers explain a walk from some initial nodes
abbrev pub IsExplainedBy : Graph → DependencyDirection → (ℕ → Bool) → List Step → List (ℕ × Half) → Type 0
IsExplainedBy g direction M steps refused = (initials : List Bool) × (length initials ≡ length (nodes g.tables)) × IsExplainedRun (content_of direction g.built) (has initials) M steps refused
