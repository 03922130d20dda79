-- The members of a set that belong to one package.
use Rattle.std.specs.Prelude.{◌≡◌, ◌↔◌, ℕ, List, Bool, Option, Some, IsTrue, IsFalse, MatchOption, Contains}
use Rattle.digraphs.specs.Bits.{has}
use Rattle.guppy_packages.specs.Rows.{Text}
use Rattle.guppy_packages.specs.Tables.{PackageTable, Tables, package_place}
use Rattle.feature_links.specs.Links.{IsPackage}
use Rattle.feature_core.specs.Nodes.{NodeAt}
use Rattle.feature_labels.specs.Lists.{Ascends, ListValue}
use Rattle.feature_labels.specs.Names.{LabelName}
use Rattle.feature_graph.specs.Packages.{has_member_of}

-- the feature of package `p` with this label is a member
abbrev pub HasMemberAt : Tables → List Bool → ℕ → LabelName → Type 0
HasMemberAt t members p label = (n : ℕ) × NodeAt t n p label × IsTrue (has members n)

-- the list of the labels of package `p` that are members, sorted and each once
pub record ListsMembers (t : Tables) (members : List Bool) (p : ℕ) (list : ListValue) : Type 0 where
  pub of_graph : list.graph ≡ t
  pub at_place : list.number ≡ p
  pub table : PackageTable
  pub is_package : IsPackage t p table
  pub of_package : list.package_id ≡ table.id
  pub labels : (label : LabelName) → Contains list.labels label ↔ HasMemberAt t members p label
  pub ascends : Ascends list.labels

-- the graph has the package with this id, and `answer` lists its members, or is `None` if it has no member
pub record TellsFeatures (t : Tables) (members : List Bool) (id : Text) (answer : Option ListValue) : Type 0 where
  pub place : ℕ
  pub is_package : package_place id t.packages ≡ Some place
  pub tells : MatchOption answer (IsFalse (has_member_of t members place)) (ListsMembers t members place)
