-- The default feature of each package, and the features of the package that it turns on.
use Rattle.std.specs.Prelude.{◌≡◌, ℕ, ◌↔◌, List, Bool, IsTrue, length, codes}
use Rattle.digraphs.specs.Bits.{has}
use Rattle.feature_edges.specs.guppy_packages.Tables.{Tables}
use Rattle.feature_edges.specs.feature_labels.Names.{LabelName}
use Rattle.feature_edges.specs.feature_labels.Names.LabelName.{base, named}
use Rattle.feature_edges.specs.feature_links.declared.edge.EdgeChoice.TheVariants.{FeatureToBaseAndNamed}
use Rattle.feature_edges.specs.Nodes.{NodeAt, node_packages}
use Rattle.feature_edges.specs.Pairs.{Along}
use Rattle.feature_edges.specs.Choices.{ChosenEdge}

-- The default feature of package `p`: its feature named `default`, or its base if it has none.
pub data IsDefaultFeature (t : Tables) (p n : ℕ) : Type 0 where
  by_name : NodeAt t n p (named (codes "default")) → IsDefaultFeature t p n
  by_base : ((m : ℕ) → ¬ NodeAt t m p (named (codes "default"))) → NodeAt t n p base → IsDefaultFeature t p n

-- A path leads from the default feature of package `p` to its node `n`, over edges to the base and edges between named features.
pub record IsDefaultIn (t : Tables) (p n : ℕ) : Type 0 where
  pub label : LabelName
  pub node : NodeAt t n p label
  pub start : ℕ
  pub is_start : IsDefaultFeature t p start
  pub path : Along (ChosenEdge t FeatureToBaseAndNamed) start n

-- Node `n` is on by default.
abbrev pub IsDefault : Tables → ℕ → Type 0
IsDefault t n = ∥ ((p : ℕ) × IsDefaultIn t p n) ∥₁

-- `marks` has, for each node, whether it is on by default.
pub record AreDefaults (t : Tables) (marks : List Bool) : Type 0 where
  pub long : length marks ≡ length (node_packages t)
  pub exact : (n : ℕ) → IsTrue (has marks n) ↔ IsDefault t n
