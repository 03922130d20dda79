-- Links between packages as values.
use Rattle.std.specs.Prelude.{ℕ}
use Rattle.guppy_packages.specs.Metadata.{link_graph_of, link_number_of}
use Rattle.guppy_packages.specs.Tables.{Tables}
use Rattle.guppy_packages.specs.declared.package_link.PackageLink.{PackageLink}

-- the tables of a package link, and its number in them
abbrev pub numbered_link_of : PackageLink → Tables × ℕ
numbered_link_of l = (link_graph_of l, link_number_of l)
