-- The declarations of workspace packages that lead to no package, but should.
use Rattle.std.specs.Prelude.{◌&&◌, ◌||◌, List, [], map, filter, flat_map, take, drop, length, codes, Bool, true, false, not, is_some, Option, Some, None, Result, Ok, if◌then◌else◌}
use Rattle.std.specs.Fmt.{◌++?◌, debug_str}
use Rattle.std.specs.List.{list_any}
use Rattle.std.specs.Str.{bytes_eq}
use Rattle.std.specs.String.{string_bytes}
use Rattle.json.specs.Json.{Json}
use Rattle.cargo_json.specs.Faults.{Text, Refusal, ◌>>=◌}
use Rattle.cargo_rows.specs.declared.warnings.Warning.{Warning}
use Rattle.workspace_documents.specs.Lists.{ById}
use Rattle.cargo_workspaces.specs.Workspaces.{FeatureText}
use Rattle.workspace_documents.specs.Packages.{DeclarationText, PackageText, packages_in}
use Rattle.workspace_documents.specs.Nodes.{NodeText, resolved_in}
use Rattle.workspace_documents.specs.Dependencies.{FoundPackage, nothing, one, several, name_of, choice}
use Rattle.workspace_documents.specs.Nodes.{node_of}

-- the rest of `text` after `front`, if `text` begins with `front`
abbrev pub rest_after : Text → Text → Option Text
rest_after front text = if bytes_eq (take (length front) text) front then Some (drop (length front) text) else None

-- whether the rest begins with `/` or `?/`
abbrev pub is_cut : Option Text → Bool
is_cut None = false
is_cut (Some rest) = is_some (rest_after (codes "/") rest) || is_some (rest_after (codes "?/") rest)

abbrev pub is_text : Text → Option Text → Bool
is_text name None = false
is_text name (Some rest) = bytes_eq rest name

-- whether an item of a feature names the dependency d: `dep:d`, `d/f` or `d?/f`
unfoldable pub names : Text → Text → Bool
names name item = is_cut (rest_after name item) || is_text name (rest_after (codes "dep:") item)

-- whether an item of the feature names the dependency
abbrev pub feature_names : Text → FeatureText → Bool
feature_names name f = list_any (names name) f.items

-- whether an item of one of the features names the dependency
abbrev pub is_named : Text → List FeatureText → Bool
is_named name features = list_any (feature_names name) features

-- whether an item of an enabled feature names the dependency; `on` has the names of the enabled features
abbrev pub is_turned_on : List Text → Text → List FeatureText → Bool
is_turned_on on name features = list_any (λ f. feature_names name f && list_any (bytes_eq f.name) on) features

-- Whether a declaration should lead to a package. If it is required, or an enabled feature names it, it should if a package of its
-- name has a library. Otherwise it should if any feature names it.
unfoldable pub is_expected : List Text → PackageText → NodeText → DeclarationText → Bool
is_expected libraries p node d =
    if not d.is_optional || is_turned_on node.features (name_of d) p.features
    then list_any (bytes_eq d.name) libraries
    else is_named (name_of d) p.features

abbrev pub is_nothing : FoundPackage → Bool
is_nothing nothing = true
is_nothing (one p) = false
is_nothing several = false

-- whether a declaration leads to no package, but should
unfoldable pub is_lost : List Text → PackageText → NodeText → DeclarationText → Bool
is_lost libraries p node d = is_nothing (choice p.id d node.deps) && is_expected libraries p node d

-- a warning: a package's id, and the name by which it calls the dependency
pub record WarningText : Type 0 where
  pub owner : Text
  pub dependency : Text

abbrev pub warning_view : Warning → WarningText
warning_view w = record { owner = string_bytes w.package; dependency = string_bytes w.dependency }

-- the line about a warning, without its line feed; None if a text isn't ASCII, because the kit doesn't say then how a text is quoted
abbrev pub warning_line : WarningText → Option Text
warning_line w =
    Some (codes "package ") ++? debug_str w.owner ++? Some (codes ": dependency ") ++? debug_str w.dependency
    ++? Some (codes " leads to no package; was --all-features forgotten?")

-- the warning for a declaration of package `id`
abbrev pub warning_of : Text → DeclarationText → WarningText
warning_of id d = record { owner = id; dependency = name_of d }

-- the warnings for a package, in the order of its declarations
unfoldable pub package_warnings : List Text → PackageText → NodeText → List WarningText
package_warnings libraries p node = map (warning_of p.id) (filter (is_lost libraries p node) p.declarations)

-- the names of the packages that have a library
abbrev pub libraries_of : List PackageText → List Text
libraries_of packages = map (λ p. p.name) (filter (λ p. is_some p.library) packages)

-- the warnings for the workspace members, in the order of their ids
abbrev pub all_warnings : List Text → List Text → ById NodeText → ById PackageText → List WarningText
all_warnings libraries members nodes packages = flat_map (λ e. if list_any (bytes_eq e.0) members then package_warnings libraries e.1 (node_of e.0 nodes) else []) packages

-- the warnings of a document, or its first fault
unfoldable pub warnings_of : Json → Result (List WarningText) Refusal
warnings_of d =
    packages_in d >>= λ packages.
    resolved_in packages d >>= λ resolved.
    Ok (all_warnings (libraries_of (map (λ e. e.1) packages)) resolved.members resolved.nodes packages)
