-- The effect of one row on the packages and on the links so far, or its fault, for each of the two passes.
use Rattle.std.specs.Prelude.{◌≡◌, ℕ, ◌+◌, ◌-◌, List, [], ◌∷◌, ◌++◌, Bool, ◌&&◌, Result, Ok, Err, length, slice_get, slice_set, ◌==◌, if◌then◌else◌}
use Rattle.std.specs.List.{list_any}
use Rattle.std.specs.Option.{option_map_or}
use Rattle.std.specs.Str.{bytes_eq}
use Rattle.guppy_packages.specs.Rows.{Text, Declared, RowText, a_package, a_feature, a_dep}
use Rattle.guppy_packages.specs.Tables.{FeatureTable, PackageTable, LinkTable, package_place, has_feature}
use Rattle.guppy_packages.specs.declared.row_error.RowFault.{RowFault}
use Rattle.guppy_packages.specs.declared.row_error.RowFault.TheVariants.{NoPackage, DuplicatePackage, DuplicateFeature, UnknownTarget, OtherName, Memory}

abbrev pub Outcome : Type 0 → Type 0
Outcome X = Result X RowFault

abbrev pub result_map : {A B E : Type 0} → (A → B) → Result A E → Result B E
result_map f (Ok x) = Ok (f x)
result_map f (Err e) = Err e

-- A call changed a table into the specified one, or returned the specified fault. An allocation may fail at any point.
abbrev pub Takes : {A X : Type 0} → X → Outcome A → Outcome X → Type 0
Takes new (Ok x) given = given ≡ Ok new
Takes new (Err Memory) given = Unit {0}
Takes new (Err NoPackage) given = given ≡ Err NoPackage
Takes new (Err DuplicatePackage) given = given ≡ Err DuplicatePackage
Takes new (Err DuplicateFeature) given = given ≡ Err DuplicateFeature
Takes new (Err UnknownTarget) given = given ≡ Err UnknownTarget
Takes new (Err OtherName) given = given ≡ Err OtherName

-- A Package row: its id must be new.
abbrev pub add_package : Text → Bool → List PackageTable → Outcome (List PackageTable)
add_package id in_workspace packages =
    if list_any (λ p. bytes_eq id p.id) packages then Err DuplicatePackage
    else Ok (packages ++ record { id = id; in_workspace = in_workspace; features = []; optional_names = [] } ∷ [])

-- The packages with the last one changed by `f`, or `NoPackage`.
abbrev pub change_last : (PackageTable → Outcome PackageTable) → List PackageTable → Outcome (List PackageTable)
change_last f packages =
    option_map_or (λ p. result_map (slice_set packages (length packages - 1)) (f p)) (slice_get packages (length packages - 1)) (Err NoPackage)

-- A Feature row: its name must be new among `features`.
abbrev pub with_feature : Text → List Text → List FeatureTable → Outcome (List FeatureTable)
with_feature name items features =
    if has_feature name features then Err DuplicateFeature else Ok (features ++ record { name = name; items = items } ∷ [])

abbrev pub add_feature : Text → List Text → PackageTable → Outcome PackageTable
add_feature name items p = result_map (λ fs. record p { features = fs }) (with_feature name items p.features)

-- The names with `name` at the end, unless it is among them.
abbrev pub with_name : Text → List Text → List Text
with_name name names = if list_any (bytes_eq name) names then names else names ++ name ∷ []

abbrev pub add_name : Text → Bool → PackageTable → PackageTable
add_name name optional p = if optional then record p { optional_names = with_name name p.optional_names } else p

-- The effect of a row in the first pass.
abbrev pub first_step : List PackageTable → RowText → Outcome (List PackageTable)
first_step packages (a_package id in_workspace) = add_package id in_workspace packages
first_step packages (a_feature name items) = change_last (add_feature name items) packages
first_step packages (a_dep name target d) = change_last (λ p. Ok (add_name name d.optional p)) packages

abbrev pub joins : ℕ → ℕ → LinkTable → Bool
joins from to l = (from == l.from) && (to == l.to)

-- A Dep row of a pair that has a link: its name must be the link's.
abbrev pub joined_link : Text → Declared → LinkTable → Outcome LinkTable
joined_link name d l = if bytes_eq name l.name then Ok (record l { declarations = l.declarations ++ d ∷ [] }) else Err OtherName

-- A Dep row: its declaration is appended to the link of its pair, or begins one.
abbrev pub add_link : ℕ → ℕ → Text → Declared → List LinkTable → Outcome (List LinkTable)
add_link from to name d [] = Ok (record { from = from; to = to; name = name; declarations = d ∷ [] } ∷ [])
add_link from to name d (l ∷ links) =
    if joins from to l then result_map (λ joined. joined ∷ links) (joined_link name d l)
    else result_map (λ rest. l ∷ rest) (add_link from to name d links)

-- The number of Package rows read, with this row included.
abbrev pub begun_after : ℕ → RowText → ℕ
begun_after begun (a_package id in_workspace) = begun + 1
begun_after begun (a_feature name items) = begun
begun_after begun (a_dep name target d) = begun

-- The effect of a row in the second pass, with `begun` Package rows read.
abbrev pub second_step : List PackageTable → ℕ → List LinkTable → RowText → Outcome (List LinkTable)
second_step packages begun links (a_package id in_workspace) = Ok links
second_step packages begun links (a_feature name items) = Ok links
second_step packages begun links (a_dep name target d) =
    option_map_or (λ to. add_link (begun - 1) to name d links) (package_place target packages) (Err UnknownTarget)
