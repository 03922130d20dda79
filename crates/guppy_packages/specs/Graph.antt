-- The tables of rows, or the first fault. Each row is read together with the rows before it.
use Rattle.std.specs.Prelude.{◌≡◌, ℕ, ◌-◌, ◌<◌, List, [], ◌∷◌, ◌++◌, Bool, true, false, ◌&&◌, Option, None, Some, Result, Ok, Err, filter, map, length, not, slice_get, take, take_while, ◌==◌, if◌then◌else◌}
use Rattle.std.specs.List.{list_any, filter_map, enumerate_from}
use Rattle.std.specs.Option.{option_map, option_map_or}
use Rattle.std.specs.Str.{bytes_eq}
use Rattle.guppy_packages.specs.Rows.{Text, Declared, RowText, a_package, a_feature, a_dep}
use Rattle.guppy_packages.specs.Tables.{FeatureTable, PackageTable, LinkTable, Tables, package_place, has_feature}
use Rattle.guppy_packages.specs.declared.row_error.RowFault.{RowFault}
use Rattle.guppy_packages.specs.declared.row_error.RowFault.TheVariants.{NoPackage, DuplicatePackage, DuplicateFeature, UnknownTarget, OtherName, Memory}
use Rattle.guppy_packages.specs.declared.row_error.RowError.{RowError}

-- The results of `f` for each row and the rows before it, in order.
abbrev pub each_after : {X : Type 0} → (List RowText → RowText → Option X) → List RowText → List X
each_after f rows = filter_map (λ p. f (take p.0 rows) p.1) (enumerate_from 0 rows)

-- The items that no earlier item is `like`.
abbrev pub firsts : {X : Type 0} → (X → X → Bool) → List X → List X
firsts like [] = []
firsts like (x ∷ xs) = x ∷ filter (λ y. not (like y x)) (firsts like xs)

abbrev pub is_package : RowText → Bool
is_package (a_package id in_workspace) = true
is_package (a_feature name items) = false
is_package (a_dep name target d) = false

abbrev pub row_feature : RowText → Option FeatureTable
row_feature (a_package id in_workspace) = None
row_feature (a_feature name items) = Some (record { name = name; items = items })
row_feature (a_dep name target d) = None

abbrev pub row_optional_name : RowText → Option Text
row_optional_name (a_package id in_workspace) = None
row_optional_name (a_feature name items) = None
row_optional_name (a_dep name target d) = if d.optional then Some name else None

-- The package whose Package row is followed by `rows`: those up to the next Package row belong to it.
abbrev pub package_before : Text → Bool → List RowText → PackageTable
package_before id in_workspace rows =
    let own = take_while (λ row. not (is_package row)) rows in
    record { id = id; in_workspace = in_workspace; features = filter_map row_feature own; optional_names = firsts bytes_eq (filter_map row_optional_name own) }

-- The packages, in the order of their rows.
abbrev pub packages_of : List RowText → List PackageTable
packages_of [] = []
packages_of (a_package id in_workspace ∷ rows) = package_before id in_workspace rows ∷ packages_of rows
packages_of (a_feature name items ∷ rows) = packages_of rows
packages_of (a_dep name target d ∷ rows) = packages_of rows

-- The number of the package that a row after `before` belongs to.
abbrev pub owner : List RowText → ℕ
owner before = length (packages_of before) - 1

-- One declared dependency between two packages.
pub record Dependency : Type 0 where
  pub from : ℕ
  pub to : ℕ
  pub name : Text
  pub declared : Declared

abbrev pub row_dependency : List PackageTable → List RowText → RowText → Option Dependency
row_dependency packages before (a_package id in_workspace) = None
row_dependency packages before (a_feature name items) = None
row_dependency packages before (a_dep name target d) =
    option_map (λ to. record { from = owner before; to = to; name = name; declared = d }) (package_place target packages)

abbrev pub dependencies_of : List PackageTable → List RowText → List Dependency
dependencies_of packages rows = each_after (row_dependency packages) rows

-- Whether `d` and `e` join the same pair of packages.
abbrev pub is_joined : Dependency → Dependency → Bool
is_joined d e = (d.from == e.from) && (d.to == e.to)

-- The link that `d` begins: it contains the declarations of all dependencies of the pair.
abbrev pub link_of : List Dependency → Dependency → LinkTable
link_of dependencies d = record { from = d.from; to = d.to; name = d.name; declarations = map (λ e. e.declared) (filter (is_joined d) dependencies) }

-- The links, in the order of the first dependency of each pair.
abbrev pub links_of : List Dependency → List LinkTable
links_of dependencies = map (link_of dependencies) (firsts is_joined dependencies)

-- The fault of a row by itself.
abbrev pub row_fault : List RowText → RowText → Option RowFault
row_fault before (a_package id in_workspace) = if list_any (λ p. bytes_eq id p.id) (packages_of before) then Some DuplicatePackage else None
row_fault before (a_feature name items) =
    option_map_or (λ p. if has_feature name p.features then Some DuplicateFeature else None) (slice_get (packages_of before) (owner before)) (Some NoPackage)
row_fault before (a_dep name target d) = option_map_or (λ p. None) (slice_get (packages_of before) (owner before)) (Some NoPackage)

-- Whether the pair already has a link of another name.
abbrev pub has_other_name : ℕ → ℕ → Text → List LinkTable → Bool
has_other_name from to name links = list_any (λ l. (from == l.from) && (to == l.to) && not (bytes_eq name l.name)) links

-- The fault of a row among all packages.
abbrev pub link_fault : List PackageTable → List RowText → RowText → Option RowFault
link_fault packages before (a_package id in_workspace) = None
link_fault packages before (a_feature name items) = None
link_fault packages before (a_dep name target d) =
    option_map_or (λ to. if has_other_name (owner before) to name (links_of (dependencies_of packages before)) then Some OtherName else None) (package_place target packages) (Some UnknownTarget)

-- The rows that have a fault, in order.
abbrev pub faults_by : (List RowText → RowText → Option RowFault) → List RowText → List RowError
faults_by fault rows = each_after (λ before row. option_map (λ f. record { row = length before; fault = f }) (fault before row)) rows

-- All faults: those of rows by themselves precede those among all packages.
abbrev pub faults_of : List RowText → List RowError
faults_of rows = faults_by row_fault rows ++ faults_by (link_fault (packages_of rows)) rows

-- The first fault, or `x` if there is none.
abbrev pub first_or : {X : Type 0} → List RowError → X → Result X RowError
first_or [] x = Ok x
first_or (e ∷ faults) x = Err e

-- The tables of the rows, or the first fault.
abbrev pub tables_of : List RowText → Result Tables RowError
tables_of rows = first_or (faults_of rows) (record { packages = packages_of rows; links = links_of (dependencies_of (packages_of rows) rows) })

-- The row that an error reports: 0 if an allocation failed.
abbrev pub error_row : RowFault → ℕ → ℕ
error_row Memory row = 0
error_row NoPackage row = row
error_row DuplicatePackage row = row
error_row DuplicateFeature row = row
error_row UnknownTarget row = row
error_row OtherName row = row

-- `P` if an allocation failed, `Q` for every other fault.
abbrev pub MatchMemory : RowFault → Type 0 → Type 0 → Type 0
MatchMemory Memory P Q = P
MatchMemory NoPackage P Q = Q
MatchMemory DuplicatePackage P Q = Q
MatchMemory DuplicateFeature P Q = Q
MatchMemory UnknownTarget P Q = Q
MatchMemory OtherName P Q = Q

-- A call returned the specified result, seen through `view`. An allocation may fail at any point.
abbrev pub Reads : {X Y : Type 0} → (X → Y) → Result X RowError → Result Y RowError → Type 0
Reads view (Ok x) given = given ≡ Ok (view x)
Reads view (Err e) given = MatchMemory e.fault (e.row ≡ 0) (given ≡ Err e)

-- The row that an error reports: 0 if an allocation failed, and otherwise one of the rows.
abbrev pub NamesRow : {X : Type 0} → List X → RowError → Type 0
NamesRow rows e = MatchMemory e.fault (e.row ≡ 0) (e.row < length rows)
