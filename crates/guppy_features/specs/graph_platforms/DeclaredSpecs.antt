-- The spec texts that the declarations of a package graph name.
use Rattle.std.specs.Prelude.{List, filter_map, flat_map}
use Rattle.std.specs.Str.{bytes_eq}
use Rattle.guppy_packages.specs.Graph.{firsts}
use Rattle.guppy_packages.specs.Rows.{Text}
use Rattle.guppy_packages.specs.Tables.{LinkTable, Tables}

-- the specs that a link's declarations name, in row order
abbrev pub link_specs : LinkTable → List Text
link_specs link = filter_map (λ d. d.platform) link.declarations

-- those of all links, in order
abbrev pub declared_specs : Tables → List Text
declared_specs t = flat_map link_specs t.links

-- THE SPEC TEXTS of a graph: each text that some declaration names, once, by first appearance
abbrev pub spec_texts : Tables → List Text
spec_texts t = firsts bytes_eq (declared_specs t)
