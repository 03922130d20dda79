-- The state of a link under construction.
use Rattle.std.specs.Prelude.{◌≡◌, ℕ, List, None, Some, true, not, Option, if◌then◌else◌, map, filter, filter_map, flat_map}
use Rattle.std.specs.List.{list_any}
use Rattle.std.specs.Option.{is_some}
use Rattle.std.specs.Str.{bytes_eq}
use Rattle.std.specs.Borrow.{Bor}
use Rattle.indexmap.specs.IndexSet.{IndexSet}
use Rattle.guppy_packages.specs.Graph.{firsts}
use Rattle.guppy_packages.specs.Platform.{always_status, never_status}
use Rattle.guppy_packages.specs.Rows.{Text, Declared}
use Rattle.guppy_packages.specs.declared.row.DependencyKind.TheVariants.{Normal, Build, Development}
use Rattle.feature_links.specs.declared.link.statuses.StatusCollector.{StatusCollector}
use Rattle.feature_links.specs.declared.link.statuses.KindCollectors.{KindCollectors}
use Rattle.feature_links.specs.declared.link.from_declarations.LinkParts.{LinkParts}
use Rattle.feature_labels.specs.declared.link_declarations.LinkDeclarations.{LinkDeclarations}
use Rattle.guppy_packages.specs.Tables.{LinkTable}
use Rattle.feature_links.specs.Links.{platforms_of, platforms_status, includes, at_places}
use Rattle.feature_links.specs.Values.{StatusFacts, held_status}

abbrev pub texts_in : {S : Type 0} → IndexSet (Bor (List ℕ)) S → List Text
texts_in set = map (λ t. t.now) set.keys

-- `c` has collected `platforms`: always if one of them is all platforms, and each spec once, by first appearance.
pub record HasPlatforms (c : StatusCollector) (platforms : List (Option Text)) : Type 0 where
  pub always : held_status c.always ≡ (if list_any (λ p. not (is_some p)) platforms then always_status else never_status)
  pub specs : texts_in c.specs ≡ firsts bytes_eq (filter_map (λ p. p) platforms)

-- Each kind has collected the platforms of its declarations.
pub record HasKinds (c : KindCollectors) (declarations : List Declared) : Type 0 where
  pub normal : HasPlatforms c.normal (platforms_of Normal declarations)
  pub build : HasPlatforms c.build (platforms_of Build declarations)
  pub dev : HasPlatforms c.dev (platforms_of Development declarations)

-- The statuses of these declarations.
abbrev pub statuses_over : LinkDeclarations → List Declared → StatusFacts
statuses_over which declarations = record {
  declarations = which;
  normal = platforms_status (platforms_of Normal declarations);
  build = platforms_status (platforms_of Build declarations);
  dev = platforms_status (platforms_of Development declarations);
}

-- `c` has collected these declarations of package links, and lists the package links that have one.
pub record HasParts (c : LinkParts) (parts : List (ℕ × List Declared)) : Type 0 where
  pub kinds : HasKinds c.statuses (flat_map (λ x. x.1) parts)
  pub links : c.links.items ≡ map (λ x. x.0) (filter (λ x. list_any (λ d. true) x.1) parts)

-- The declarations of a package link: those at `places` if it is `Some`, and otherwise those that `which` covers.
abbrev pub wanted : LinkDeclarations → Option (Bor (List ℕ)) → LinkTable → List Declared
wanted which None link = filter (λ d. includes which d) link.declarations
wanted which (Some places) link = at_places link.declarations places.now

-- The same for several package links, each with its number.
abbrev pub wanted_parts : LinkDeclarations → Option (Bor (List ℕ)) → List (ℕ × LinkTable) → List (ℕ × List Declared)
wanted_parts which places links = map (λ l. (l.0, wanted which places l.1)) links
