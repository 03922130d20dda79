-- The lines in columns.
use Rattle.std.specs.Prelude.{ℕ, ◌-◌, List, [], ◌∷◌, ◌++◌, Option, Some, None, map, length, replicate, codes}
use Rattle.std.specs.Fmt.{decimal}
use Rattle.cargo_workspaces.specs.Workspaces.{DeclarationText, PackageText, Text}
use Rattle.cargo_workspaces.specs.declared.package.Kind.{Kind}
use Rattle.cargo_workspaces.specs.declared.package.Kind.TheVariants as kind
use Rattle.feats_lines.specs.parts.Tables.{RowText, table_of}
use Rattle.feats_slim.specs.edits.Orders.{SlimText}
use Rattle.cargo_manifests.specs.Edits.{WithoutText, defaults, feature}
use Rattle.feats_slim.specs.answers.Shown.{ShownPlaceText, ShownText, all_shown, declared, inherited}

-- Digits at the right of a column as wide as its title.
abbrev pub at_right : Text → Text
at_right digits = replicate (8 - length digits) 32 ++ digits

abbrev pub number_cell : ℕ → Text
number_cell n = at_right (decimal n)

abbrev pub kind_words : Kind → Text
kind_words kind.Normal = []
kind_words kind.Build = codes " (build)"
kind_words kind.Development = codes " (dev)"

abbrev pub platform_words : Option Text → Text
platform_words None = []
platform_words (Some spec) = codes " for " ++ spec

-- A name between backticks.
abbrev pub quoted : Text → Text
quoted name = 96 ∷ (name ++ 96 ∷ [])

abbrev pub without_words : WithoutText → Text
without_words defaults = codes " without default features"
without_words (feature name) = codes " without feature " ++ quoted name

abbrev pub declared_words : PackageText → DeclarationText → Text
declared_words x d = x.name ++ (codes ": " ++ (d.name ++ (kind_words d.kind ++ platform_words d.platform)))

abbrev pub inherited_words : Text → WithoutText → Text
inherited_words name without = codes "[workspace.dependencies]: " ++ (name ++ (without_words without ++ codes ", for all members that inherit it"))

-- What is edited, and what is taken out there.
abbrev pub edit_words : ShownPlaceText → WithoutText → Text
edit_words (declared x d) without = declared_words x d ++ without_words without
edit_words (inherited name) without = inherited_words name without

abbrev pub row_of : ShownText → RowText
row_of s = record { first = number_cell s.packages; second = number_cell s.features; third = edit_words s.place s.without }

abbrev pub titles : RowText
titles = record { first = codes "packages"; second = codes "features"; third = codes "edit of a declaration" }

abbrev pub table_of_shown : List ShownText → Text
table_of_shown shown = table_of (titles ∷ map row_of shown)

abbrev pub lines_of : List ShownText → Text
lines_of [] = codes "no edit makes this build smaller\n"
lines_of (s ∷ more) = table_of_shown (s ∷ more)

-- The lines, over the packages of the workspace.
abbrev pub slim_lines : List PackageText → List SlimText → Text
slim_lines packages slims = lines_of (all_shown packages slims)
