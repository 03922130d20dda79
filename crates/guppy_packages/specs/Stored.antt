-- The tables that a package graph stores.
use Rattle.std.specs.Prelude.{ℕ, List, [], ◌∷◌, drop, map}
use Rattle.std.specs.String.{string_bytes}
use Rattle.guppy_packages.specs.Rows.{Text, Declared}
use Rattle.guppy_packages.specs.Tables.{PackageTable, LinkTable}
use Rattle.guppy_packages.specs.NamedFeature.{feature_table}
use Rattle.guppy_packages.specs.Parts.{first_text}
use Rattle.guppy_packages.specs.Platform.{platform_text}
use Rattle.guppy_packages.specs.inner.Declarations.{held_declarations}
use Rattle.guppy_packages.specs.declared.declaration.Declaration.{Declaration}
use Rattle.guppy_packages.specs.declared.contents.PackageData.{PackageData}
use Rattle.guppy_packages.specs.declared.contents.LinkData.{LinkData}

abbrev pub declared : Declaration → Declared
declared d = record { kind = d.kind; optional = d.optional; platform = platform_text d.platform.value; default_features = d.default_features; features = drop 1 d.texts }

-- The name in the rows of these declarations: that in the first.
abbrev pub declared_name : List Declaration → Text
declared_name [] = []
declared_name (d ∷ ds) = first_text d.texts

abbrev pub package_table : Text × PackageData → PackageTable
package_table e = record { id = e.0; in_workspace = e.1.in_workspace; features = map feature_table e.1.features; optional_names = map string_bytes e.1.optional_names }

abbrev pub package_tables : List (Text × PackageData) → List PackageTable
package_tables packages = map package_table packages

abbrev pub link_table : (ℕ × ℕ) × LinkData → LinkTable
link_table e = record { from = e.0.0; to = e.0.1; name = declared_name (held_declarations e.1.declarations); declarations = map declared (held_declarations e.1.declarations) }

abbrev pub link_tables : List ((ℕ × ℕ) × LinkData) → List LinkTable
link_tables links = map link_table links
