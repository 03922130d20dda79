-- The labels of one package's members, collected node by node.
use Rattle.std.specs.Prelude.{◌↔◌, ◌<◌, ◌⊎◌, ℕ, List, Bool, IsTrue, Contains}
use Rattle.digraphs.specs.Bits.{has}
use Rattle.guppy_packages.specs.Tables.{Tables}
use Rattle.feature_core.specs.Nodes.{NodeAt}
use Rattle.feature_labels.specs.Names.{LabelName}

-- the feature of package `p` with this label is a member, and its node is below `n`
abbrev pub HasMemberBelow : Tables → List Bool → ℕ → ℕ → LabelName → Type 0
HasMemberBelow t members p n label = (m : ℕ) × (NodeAt t m p label × IsTrue (has members m) × (m < n))

-- the label of the node is added if the node is a member
abbrev pub AddsLabel : Tables → List Bool → ℕ → ℕ → List LabelName → List LabelName → Type 0
AddsLabel t members p n old new = (label : LabelName) → Contains new label ↔ (Contains old label ⊎ (NodeAt t n p label × IsTrue (has members n)))
