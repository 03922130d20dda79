-- The rows that a document stands for.
use Rattle.std.specs.Prelude.{◌++◌, List, [], ◌∷◌, map, Bool, Result, Ok}
use Rattle.std.specs.List.{list_any}
use Rattle.std.specs.Str.{bytes_eq}
use Rattle.json.specs.Json.{Json}
use Rattle.cargo_workspaces.specs.Workspaces.{FeatureText}
use Rattle.cargo_workspaces.specs.declared.package.Kind.{Kind}
use Rattle.cargo_workspaces.specs.declared.package.Kind.TheVariants as kind
use Rattle.cargo_json.specs.Faults.{Text, Refusal, ◌>>=◌}
use Rattle.workspace_documents.specs.Dependencies.{DependencyText, name_of, dependencies_of}
use Rattle.workspace_documents.specs.Lists.{ById}
use Rattle.workspace_documents.specs.Nodes.{NodeText, node_of, resolved_in}
use Rattle.workspace_documents.specs.Packages.{PackageText, packages_in}
use Rattle.guppy_packages.specs.Rows.{Declared, RowText, a_package, a_feature, a_dep}
use Rattle.guppy_packages.specs.declared.row.DependencyKind.{DependencyKind}
use Rattle.guppy_packages.specs.declared.row.DependencyKind.TheVariants.{Normal, Build, Development}

abbrev pub kind_of : Kind → DependencyKind
kind_of kind.Normal = Normal
kind_of kind.Build = Build
kind_of kind.Development = Development

abbrev pub feature_row : FeatureText → RowText
feature_row f = a_feature f.name f.items

abbrev pub declared_of : DependencyText → Declared
declared_of e = record {
  kind = kind_of e.declaration.kind;
  optional = e.declaration.is_optional;
  platform = e.declaration.platform;
  default_features = e.declaration.has_default_features;
  features = e.declaration.features;
}

-- The row of a declaration that leads to a package.
abbrev pub dependency_row : DependencyText → RowText
dependency_row e = a_dep (name_of e.declaration) e.target.id (declared_of e)

-- The rows of a package: its own, its features', and those of its declarations that lead to a package.
abbrev pub package_rows : Bool → PackageText → List DependencyText → List RowText
package_rows is_member p es = a_package p.id is_member ∷ (map feature_row p.features ++ map dependency_row es)

-- The rows of each package, or the first fault.
abbrev pub all_rows : List Text → ById NodeText → ById PackageText → Result (List RowText) Refusal
all_rows members nodes [] = Ok []
all_rows members nodes (e ∷ packages) =
    dependencies_of e.1 (node_of e.0 nodes).deps >>= λ es.
    all_rows members nodes packages >>= λ rest.
    Ok (package_rows (list_any (bytes_eq e.0) members) e.1 es ++ rest)

-- The rows of a document, or its first fault.
abbrev pub document_rows : Json → Result (List RowText) Refusal
document_rows d =
    packages_in d >>= λ packages.
    resolved_in packages d >>= λ resolved.
    all_rows resolved.members resolved.nodes packages
