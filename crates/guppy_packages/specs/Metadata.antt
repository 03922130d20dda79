-- The packages and links of a graph as plain values.
use Rattle.std.specs.Prelude.{ℕ}
use Rattle.guppy_packages.specs.Rows.{Text}
use Rattle.guppy_packages.specs.Tables.{Tables, PackageTable, LinkTable}
use Rattle.guppy_packages.specs.Stored.{package_table, link_table}
use Rattle.guppy_packages.specs.declared.package_metadata.PackageMetadata.{PackageMetadata}
use Rattle.guppy_packages.specs.declared.package_link.PackageLink.{PackageLink}

abbrev pub package_id_of : PackageMetadata → Text
package_id_of m = m.id.now

-- The tables of the package's graph.
abbrev pub package_graph_of : PackageMetadata → Tables
package_graph_of m = m.graph.now

-- The package's number in its graph.
abbrev pub package_number_of : PackageMetadata → ℕ
package_number_of m = m.package_ix

abbrev pub package_table_of : PackageMetadata → PackageTable
package_table_of m = package_table (m.id.now, m.contents.now)

abbrev pub link_graph_of : PackageLink → Tables
link_graph_of l = l.graph.now

-- The link's number in its graph.
abbrev pub link_number_of : PackageLink → ℕ
link_number_of l = l.link_ix

abbrev pub link_table_of : PackageLink → LinkTable
link_table_of l = link_table (l.pair, l.contents.now)
