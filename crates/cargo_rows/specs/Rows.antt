-- The rows of a document.
use Rattle.std.specs.Prelude.{◌||◌, ◌++◌, List, [], ◌∷◌, flat_map, codes, Option, Some, None, Bool, true, false, Result, Ok, Err, if◌then◌else◌, ⊤}
use Rattle.std.specs.List.{list_any}
use Rattle.std.specs.Str.{bytes_eq}
use Rattle.std.specs.Char.{is_ascii_control}
use Rattle.json.specs.Json.{Json}
use Rattle.cargo_workspaces.specs.declared.package.Kind.{Kind}
use Rattle.cargo_workspaces.specs.declared.package.Kind.TheVariants as kind
use Rattle.cargo_json.specs.Faults.{Text, Refusal, control, ◌>>=◌}
use Rattle.workspace_documents.specs.Lists.{joined, ById}
use Rattle.cargo_workspaces.specs.Workspaces.{FeatureText}
use Rattle.workspace_documents.specs.Packages.{PackageText, packages_in}
use Rattle.workspace_documents.specs.Nodes.{DepText, NodeText, node_of, resolved_in}
use Rattle.workspace_documents.specs.Dependencies.{DependencyText, name_of, dependencies_of, agree}

-- whether a text has an ASCII control character, so that a row can't contain it
abbrev pub has_control : Text → Bool
has_control [] = false
has_control (b ∷ rest) = is_ascii_control b || has_control rest

-- no text has a control character, or the fault of the first that has one
abbrev pub allowed : List Text → Result ⊤ Refusal
allowed [] = Ok tt
allowed (s ∷ rest) = if has_control s then Err (control s) else allowed rest

-- the fields, with a tab before each
abbrev pub fields_text : List Text → Text
fields_text fields = flat_map (λ s. 9 ∷ s) fields

-- a row: its word, its fields with a tab before each, and a line feed
abbrev pub row_text : Text → List Text → Text
row_text word fields = (word ++ fields_text fields) ++ 10 ∷ []

unfoldable pub row : Text → List Text → Result Text Refusal
row word fields = allowed fields >>= λ _. Ok (row_text word fields)

-- the word for a workspace member, or for any other package
abbrev pub member_word : Bool → Text
member_word true = codes "workspace"
member_word false = codes "external"

-- the word for a kind
abbrev pub kind_word : Kind → Text
kind_word kind.Normal = codes "normal"
kind_word kind.Build = codes "build"
kind_word kind.Development = codes "dev"

abbrev pub need_word : Bool → Text
need_word true = codes "optional"
need_word false = codes "required"

abbrev pub defaults_word : Bool → Text
defaults_word true = codes "default"
defaults_word false = codes "nodefault"

-- the platform's text; `*` for every platform
abbrev pub platform_text : Option Text → Text
platform_text None = codes "*"
platform_text (Some platform) = platform

-- the fields of a feature's row
abbrev pub feature_fields : FeatureText → List Text
feature_fields f = f.name ∷ f.items

-- the fields of the row of a declaration that leads to a package
abbrev pub dependency_fields : DependencyText → List Text
dependency_fields e =
    name_of e.declaration ∷ e.target.id ∷ kind_word e.declaration.kind ∷ need_word e.declaration.is_optional ∷ platform_text e.declaration.platform
    ∷ defaults_word e.declaration.has_default_features ∷ e.declaration.features

abbrev pub feature_rows : List FeatureText → Result Text Refusal
feature_rows features = joined (λ f. row (codes "feature") (feature_fields f)) features

abbrev pub dependency_rows : List DependencyText → Result Text Refusal
dependency_rows es = joined (λ e. row (codes "dep") (dependency_fields e)) es

-- the rows of the declarations of a package that uses these
unfoldable pub led_rows : List DepText → PackageText → Result Text Refusal
led_rows deps p =
    dependencies_of p deps >>= λ es.
    agree p.id es es >>= λ _.
    dependency_rows es

-- the rows of a package that uses these: its own, its features', and its dependencies'
unfoldable pub package_rows : Bool → List DepText → PackageText → Result Text Refusal
package_rows is_member deps p =
    row (codes "package") (p.id ∷ member_word is_member ∷ []) >>= λ first.
    feature_rows p.features >>= λ features.
    led_rows deps p >>= λ dependencies.
    Ok ((first ++ features) ++ dependencies)

-- the rows of each package
abbrev pub all_rows : List Text → ById NodeText → ById PackageText → Result Text Refusal
all_rows members nodes packages = joined (λ e. package_rows (list_any (bytes_eq e.0) members) (node_of e.0 nodes).deps e.1) packages

-- the rows of a document, or its first fault
unfoldable pub rows_of : Json → Result Text Refusal
rows_of d =
    packages_in d >>= λ packages.
    resolved_in packages d >>= λ resolved.
    all_rows resolved.members resolved.nodes packages
