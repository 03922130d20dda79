-- The packages of a document.
use Rattle.std.specs.Prelude.{◌&&◌, ℕ, List, [], ◌∷◌, codes, Bool, true, false, Option, Some, None, Result, Ok, Err, option_and_then, if◌then◌else◌}
use Rattle.std.specs.List.{list_any}
use Rattle.std.specs.Str.{bytes_eq}
use Rattle.std.specs.BTreeMap.{insert_entry}
use Rattle.json.specs.Json.{Json, Items, Members, no_members, member}
use Rattle.json.specs.Find.{get, as_array}
use Rattle.cargo_json.specs.declared.fault.Place.{Place}
use Rattle.cargo_json.specs.declared.fault.Place.TheVariants as place
use Rattle.cargo_workspaces.specs.declared.package.Kind.{Kind}
use Rattle.cargo_workspaces.specs.declared.package.Kind.TheVariants as kind
use Rattle.cargo_json.specs.Faults.{Text, Refusal, bad_field, every_platform, ◌>>=◌}
use Rattle.cargo_json.specs.Fields.{wanted, all_texts, text_in, optional_text_in, flag_in, list_in, object_in, texts_in}
use Rattle.cargo_workspaces.specs.Workspaces.{FeatureText, TargetText, is_library_kind}
use Rattle.workspace_documents.specs.Targets.{text_at, targets_in}
use Rattle.workspace_documents.specs.Lists.{each, first_some, ById, id_cmp, each_by_id}

-- the kind that a text names; null is the normal kind
abbrev pub kind_of : Place → Option Text → Result Kind Refusal
kind_of at None = Ok kind.Normal
kind_of at (Some s) = if bytes_eq s (codes "build") then Ok kind.Build else (if bytes_eq s (codes "dev") then Ok kind.Development else Err (bad_field at (codes "kind")))

abbrev pub kind_in : Place → Json → Result Kind Refusal
kind_in at d = optional_text_in at (codes "kind") d >>= kind_of at

-- The platform that a text names; null is every platform. The text `*` is a fault, since a row writes it for every platform.
abbrev pub platform_of : Place → Option Text → Result (Option Text) Refusal
platform_of at None = Ok None
platform_of at (Some s) = if bytes_eq s (codes "*") then Err (every_platform at) else Ok (Some s)

abbrev pub platform_in : Place → Json → Result (Option Text) Refusal
platform_in at d = optional_text_in at (codes "target") d >>= platform_of at

-- a dependency that a package declares
pub record DeclarationText : Type 0 where
  pub name : Text
  pub rename : Option Text
  pub requirement : Text
  pub kind : Kind
  pub platform : Option Text
  pub is_optional : Bool
  pub has_default_features : Bool
  pub features : List Text

-- a kind and a platform, of a declaration or of a use
pub record UseText : Type 0 where
  pub kind : Kind
  pub platform : Option Text

abbrev pub same_kind : Kind → Kind → Bool
same_kind kind.Normal kind.Normal = true
same_kind kind.Build kind.Build = true
same_kind kind.Development kind.Development = true
same_kind _ _ = false

abbrev pub same_platform : Option Text → Option Text → Bool
same_platform None None = true
same_platform (Some a) (Some b) = bytes_eq a b
same_platform _ _ = false

-- whether both have the same kind and the same platform
abbrev pub same_use : UseText → UseText → Bool
same_use a b = same_kind a.kind b.kind && same_platform a.platform b.platform

unfoldable pub use_in : Place → Json → Result UseText Refusal
use_in at d =
    kind_in at d >>= λ kind.
    platform_in at d >>= λ platform.
    Ok (record { kind = kind; platform = platform })

-- the name of a declaration, its new name and its requirement
unfoldable pub wanted_in : Place → Json → Result (Text × (Option Text × Text)) Refusal
wanted_in at d =
    text_in at (codes "name") d >>= λ name.
    optional_text_in at (codes "rename") d >>= λ rename.
    text_in at (codes "req") d >>= λ requirement.
    Ok (name, (rename, requirement))

-- whether a declaration is optional, and whether it has default features
unfoldable pub flags_in : Place → Json → Result (Bool × Bool) Refusal
flags_in at d =
    flag_in at (codes "optional") d >>= λ is_optional.
    flag_in at (codes "uses_default_features") d >>= λ has_default_features.
    Ok (is_optional, has_default_features)

-- the declaration that an object is, or the first field at fault
unfoldable pub declaration_in : Place → Json → Result DeclarationText Refusal
declaration_in at d =
    wanted_in at d >>= λ w.
    use_in at d >>= λ u.
    flags_in at d >>= λ flags.
    texts_in at (codes "features") d >>= λ features.
    Ok (record { name = w.0; rename = w.1.0; requirement = w.1.1; kind = u.kind; platform = u.platform; is_optional = flags.0; has_default_features = flags.1; features = features })

-- `xs` and the members, in the order of their names' bytes; of a repeated name the last value
abbrev pub sorted : ById Json → Members → ById Json
sorted xs no_members = xs
sorted xs (member name j ms) = sorted (insert_entry id_cmp xs name j) ms

-- the feature that a member is, or its fault
abbrev pub feature_in : Place → Text × Json → Result FeatureText Refusal
feature_in at m = wanted at (codes "features") (option_and_then all_texts (as_array m.1)) >>= λ items. Ok (record { name = m.0; items = items })

-- each member as a feature, or the first fault
abbrev pub features_of : Place → ById Json → Result (List FeatureText) Refusal
features_of at [] = Ok []
features_of at (m ∷ ms) = feature_in at m >>= λ feature. features_of at ms >>= λ rest. Ok (feature ∷ rest)

-- the name of a target, where one of its kinds is a library's
unfoldable pub library_in : Place → Json → Result (Option Text) Refusal
library_in at d =
    text_in at (codes "name") d >>= λ name.
    texts_in at (codes "kind") d >>= λ kinds.
    Ok (if list_any is_library_kind kinds then Some name else None)

-- the name of the first library among the targets of package `n`, or the first fault of any target
unfoldable pub first_library : ℕ → Items → Result (Option Text) Refusal
first_library n objects = each (λ i. library_in (place.Target n i)) 0 objects >>= λ names. Ok (first_some names)

pub record PackageText : Type 0 where
  pub id : Text
  pub name : Text
  pub version : Text
  pub source : Option Text
  -- the name of its first library target
  pub library : Option Text
  pub targets : List TargetText
  pub features : List FeatureText
  pub declarations : List DeclarationText

-- the lists of declarations and of targets of a package, and its features
unfoldable pub lists_in : Place → Json → Result (Items × (Items × Members)) Refusal
lists_in at d =
    list_in at (codes "dependencies") d >>= λ declared.
    list_in at (codes "targets") d >>= λ targets.
    object_in at (codes "features") d >>= λ members.
    Ok (declared, (targets, members))

-- the id of a package, its name and its version
unfoldable pub names_in : Place → Json → Result (Text × (Text × Text)) Refusal
names_in at d =
    text_in at (codes "id") d >>= λ id.
    text_in at (codes "name") d >>= λ name.
    text_in at (codes "version") d >>= λ version.
    Ok (id, (name, version))

-- the package that the object at place n is, or its first fault
unfoldable pub package_in : ℕ → Json → Result PackageText Refusal
package_in n d =
    lists_in (place.Package n) d >>= λ lists.
    names_in (place.Package n) d >>= λ names.
    first_library n lists.1.0 >>= λ library.
    features_of (place.Package n) (sorted [] lists.1.1) >>= λ features.
    each (λ i. declaration_in (place.Dependency n i)) 0 lists.0 >>= λ declarations.
    Ok (record { id = names.0; name = names.1.0; version = names.1.1; source = text_at (codes "source") d; library = library; targets = targets_in lists.1.0; features = features; declarations = declarations })

abbrev pub package_with_id : ℕ → Json → Result (Text × PackageText) Refusal
package_with_id n d = package_in n d >>= λ p. Ok (p.id, p)

-- the packages in an array, by their ids, or the first fault
unfoldable pub packages_at : Option Json → Result (ById PackageText) Refusal
packages_at found = wanted place.Document (codes "packages") (option_and_then as_array found) >>= each_by_id package_with_id place.Package 0 []

-- the packages of the document, by their ids, or the first fault
unfoldable pub packages_in : Json → Result (ById PackageText) Refusal
packages_in d = packages_at (get (codes "packages") d)
