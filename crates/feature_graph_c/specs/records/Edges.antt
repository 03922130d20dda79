-- The edges of a feature graph, its weak links and its warnings as bytes.
use Rattle.std.specs.Prelude.{ℕ, List, ◌++◌}
use Rattle.feature_graph_c.specs.binary.Records.{number, text, list, optional}
use Rattle.guppy_packages.specs.Platform.{Status, never_status, always_status, spec_status}
use Rattle.feature_labels.specs.declared.link_declarations.LinkDeclarations.{LinkDeclarations}
use Rattle.feature_labels.specs.declared.link_declarations.LinkDeclarations.TheVariants.{Unsplit, Required, Optional}
use Rattle.feature_links.specs.Links.{LinkFacts}
use Rattle.feature_links.specs.Facts.{EdgeFacts, base_edge, feature_edge, colon_edge, strong_edge, weak_edge, section_edge}
use Rattle.feature_core.specs.Warnings.{Warning, missing_feature, self_loop}

-- A status: never, always, or its specs.
abbrev pub status_record : Status → List ℕ
status_record never_status = number 0
status_record always_status = number 1
status_record (spec_status specs) = number 2 ++ list text specs

-- The declarations that a link covers.
abbrev pub covered_record : LinkDeclarations → List ℕ
covered_record Unsplit = number 0
covered_record Required = number 1
covered_record Optional = number 2

-- A link: the declarations that it covers, its status for each kind, and the numbers of its package links.
abbrev pub link_record : LinkFacts → List ℕ
link_record l = covered_record l.declarations ++ status_record l.normal ++ status_record l.build ++ status_record l.dev ++ list number l.package_links

-- The kind of an edge, and its link if it is conditional. A weak edge has the number of its weak link and its halves too.
abbrev pub facts_record : EdgeFacts → List ℕ
facts_record base_edge = number 0
facts_record feature_edge = number 1
facts_record (colon_edge l) = number 2 ++ link_record l
facts_record (strong_edge l) = number 3 ++ link_record l
facts_record (section_edge l) = number 4 ++ link_record l
facts_record (weak_edge l halves) = number 5 ++ link_record l ++ number halves.index ++ optional link_record halves.required ++ optional link_record halves.optional

-- An edge: its source, its target, its kind and its link.
abbrev pub edge_record : ℕ × ℕ × EdgeFacts → List ℕ
edge_record e = number e.0 ++ number e.1 ++ facts_record e.2

-- A weak link: its package link and its gate.
abbrev pub weak_record : ℕ × ℕ → List ℕ
weak_record weak = number weak.0 ++ number weak.1

abbrev pub warning_record : Warning → List ℕ
warning_record (missing_feature id name) = number 0 ++ (text id ++ text name)
warning_record (self_loop id name) = number 1 ++ (text id ++ text name)
