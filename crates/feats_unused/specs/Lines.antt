-- The lines in columns.
use Rattle.std.specs.Prelude.{List, ◌++◌, codes, map}
use Rattle.cargo_workspaces.specs.Workspaces.{PackageText, Text}
use Rattle.feats_lines.specs.Lines.{label_of, name_of}
use Rattle.feats_lines.specs.parts.Tables.{RowText, table_of}
use Rattle.feats_unused.specs.Shown.{ShownText, dead, unused}

abbrev pub kind_of : ShownText → Text
kind_of (unused x name) = codes "unused"
kind_of (dead x name item) = codes "dead"

abbrev pub package_of : ShownText → PackageText
package_of (unused x name) = x
package_of (dead x name item) = x

abbrev pub dead_detail : Text → Text → Text
dead_detail name item = name ++ (codes ": " ++ item)

-- What a line says of its package.
abbrev pub detail_of : ShownText → Text
detail_of (unused x name) = name
detail_of (dead x name item) = dead_detail name item

abbrev pub row_of : List Text → ShownText → RowText
row_of names s = record { first = kind_of s; second = label_of names (package_of s); third = detail_of s }

-- The lines, over the packages of the workspace.
abbrev pub unused_lines : List PackageText → List ShownText → Text
unused_lines packages shown = table_of (map (row_of (map name_of packages)) shown)
