-- What a policy linter answers.
use Rattle.std.specs.Prelude.{◌≡◌, ◌⊎◌, ℕ, Bool, List, Some, slice_get}
use Rattle.guppy_features.specs.digraphs.Bits.{has}
use Rattle.guppy_features.specs.guppy_packages.Rows.{Text}
use Rattle.guppy_features.specs.feature_labels.Names.{LabelName, id_of}
use Rattle.guppy_features.specs.feature_core.Built.{NodeNamed}
use Rattle.guppy_features.specs.walk_engine.declared.walks.Half.{Half}
use Rattle.guppy_features.specs.walk_engine.Walks.{Least}
use Rattle.guppy_features.specs.feature_graph.Values.{Query}
use Rattle.guppy_features.specs.feature_graph.Visits.{query_content}
use Rattle.uses.specs.declared.linter.Finding.{Finding}

-- the feature that was found to be on
abbrev pub finding_name : Finding → Text × LabelName
finding_name f = id_of f.id

-- the name is among these
abbrev pub IsNamed : List (Text × LabelName) → Text × LabelName → Type 0
IsNamed named name = (k : ℕ) × (slice_get named k ≡ Some name)

-- the feature is named, or isn't in the least set for the offers in A
abbrev pub IsCleared : Query → (ℕ → Half → Bool) → List (Text × LabelName) → Text × LabelName → Type 0
IsCleared q A named name = IsNamed named name ⊎ ((n : ℕ) → NodeNamed q.graph.tables n name → ¬ Least (query_content q) (has q.initials) A n)
