-- The packages with a feature in a set.
use Rattle.std.specs.Prelude.{◌≡◌, ℕ, ◌-◌, ◌==◌, List, Bool, Some, filter, length}
use Rattle.std.specs.List.{list_any, range_with_len}
use Rattle.digraphs.specs.Bits.{has}
use Rattle.guppy_packages.specs.Rows.{Text}
use Rattle.guppy_packages.specs.Tables.{Tables, package_place}
use Rattle.feature_core.specs.Nodes.{node_packages}
use Rattle.feature_core.specs.Errors.{Refusal, unknown_package}
use Rattle.feature_graph.specs.Names.{HasPackage, at_places}

-- the package of each member, in the order of the nodes
abbrev pub packages_of_members : Tables → List Bool → List ℕ
packages_of_members t members = at_places (has members) (node_packages t)

-- whether package `p` has a member
abbrev pub has_member_of : Tables → List Bool → ℕ → Bool
has_member_of t members p = list_any (λ q. q == p) (packages_of_members t members)

-- the packages from number `n` on with a member, ascending
abbrev pub member_packages_from : Tables → List Bool → ℕ → List ℕ
member_packages_from t members n = filter (λ p. has_member_of t members p) (range_with_len n (length t.packages - n))

-- the packages with a member, ascending
abbrev pub member_packages : Tables → List Bool → List ℕ
member_packages t members = member_packages_from t members 0

-- the graph has the package with this id, and `answer` is whether it has a member
pub record TellsPackage (t : Tables) (members : List Bool) (id : Text) (answer : Bool) : Type 0 where
  pub place : ℕ
  pub is_package : package_place id t.packages ≡ Some place
  pub tells : answer ≡ has_member_of t members place

-- the error of a look-up of a package: the package is unknown
abbrev pub RefusesPackageId : Tables → Text → Refusal → Type 0
RefusesPackageId t id refusal = (refusal ≡ unknown_package id) × (¬ HasPackage t id)
