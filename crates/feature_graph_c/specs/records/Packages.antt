-- Packages and package links as bytes.
use Rattle.std.specs.Prelude.{ℕ, List, ◌++◌}
use Rattle.feature_graph_c.specs.binary.Records.{number, flag, text, list, optional}
use Rattle.guppy_packages.specs.Rows.{Declared}
use Rattle.guppy_packages.specs.Tables.{FeatureTable, PackageTable, LinkTable}
use Rattle.guppy_packages.specs.declared.row.DependencyKind.{DependencyKind}
use Rattle.guppy_packages.specs.declared.row.DependencyKind.TheVariants.{Normal, Build, Development}

-- A named feature: its name and its items.
abbrev pub feature_record : FeatureTable → List ℕ
feature_record f = text f.name ++ list text f.items

-- A package: its id, whether it is a workspace member, its named features and the names of its optional dependencies.
abbrev pub package_record : PackageTable → List ℕ
package_record p = text p.id ++ flag p.in_workspace ++ list feature_record p.features ++ list text p.optional_names

abbrev pub kind_record : DependencyKind → List ℕ
kind_record Normal = number 0
kind_record Build = number 1
kind_record Development = number 2

-- A declaration: its kind, whether it is optional, its platform if it isn't for all, whether it requests the default feature, and
-- the features that it lists.
abbrev pub declaration_record : Declared → List ℕ
declaration_record d = kind_record d.kind ++ flag d.optional ++ optional text d.platform ++ flag d.default_features ++ list text d.features

-- A package link: the numbers of its packages, its name and its declarations.
abbrev pub link_record : LinkTable → List ℕ
link_record l = number l.from ++ number l.to ++ text l.name ++ list declaration_record l.declarations
