-- The link of an edge: the declarations that it covers, and its status for each kind.
use Rattle.std.specs.Prelude.{◌≡◌, ℕ, ◌+◌, ◌<◌, ◌↔◌, List, [], ◌∷◌, Bool, true, false, not, ◌&&◌, ◌==◌, Option, None, Some, IsTrue, AllPairs, Contains, map, filter, filter_map, flat_map, slice_get, if◌then◌else◌}
use Rattle.std.specs.List.{list_any}
use Rattle.std.specs.Option.{is_some, option_map, option_map_or}
use Rattle.std.specs.Str.{bytes_eq}
use Rattle.guppy_packages.specs.Graph.{firsts}
use Rattle.guppy_packages.specs.Platform.{Status, always_status, status_by}
use Rattle.guppy_packages.specs.Rows.{Text, Declared}
use Rattle.guppy_packages.specs.Tables.{PackageTable, LinkTable, Tables}
use Rattle.guppy_packages.specs.declared.row.DependencyKind.{DependencyKind}
use Rattle.guppy_packages.specs.declared.row.DependencyKind.TheVariants.{Normal, Build, Development}
use Rattle.feature_labels.specs.declared.link_declarations.LinkDeclarations.{LinkDeclarations}
use Rattle.feature_labels.specs.declared.link_declarations.LinkDeclarations.TheVariants.{Unsplit, Required, Optional}

-- Package `p` of the tables, and link `k`.
abbrev pub IsPackage : Tables → ℕ → PackageTable → Type 0
IsPackage t p table = slice_get t.packages p ≡ Some table

abbrev pub IsLink : Tables → ℕ → LinkTable → Type 0
IsLink t k link = slice_get t.links k ≡ Some link

-- Always if some declaration applies on all platforms; never if there is none; otherwise the specs by first appearance, without
-- repeats.
abbrev pub platforms_status : List (Option Text) → Status
platforms_status platforms = if list_any (λ p. not (is_some p)) platforms then always_status else status_by (firsts bytes_eq (filter_map (λ p. p) platforms))

abbrev pub is_kind : DependencyKind → DependencyKind → Bool
is_kind Normal Normal = true
is_kind Normal Build = false
is_kind Normal Development = false
is_kind Build Normal = false
is_kind Build Build = true
is_kind Build Development = false
is_kind Development Normal = false
is_kind Development Build = false
is_kind Development Development = true

-- Whether a link covers the declaration.
abbrev pub includes : LinkDeclarations → Declared → Bool
includes Unsplit d = true
includes Required d = not d.optional
includes Optional d = d.optional

pub record LinkFacts : Type 0 where
  pub declarations : LinkDeclarations
  pub normal : Status
  pub build : Status
  pub dev : Status
  pub package_links : List ℕ

-- The status of `kind`, over the declarations of `links` that pass.
abbrev pub joined_status : DependencyKind → (Declared → Bool) → List (ℕ × LinkTable) → Status
joined_status kind passes links = platforms_status (flat_map (λ l. map (λ d. d.platform) (filter (λ d. passes d && is_kind kind d.kind) l.1.declarations)) links)

-- The platforms of the declarations of `kind`.
abbrev pub platforms_of : DependencyKind → List Declared → List (Option Text)
platforms_of kind declarations = map (λ d. d.platform) (filter (λ d. is_kind kind d.kind) declarations)

-- The link over the declarations of `links` that pass.
abbrev pub over : LinkDeclarations → (Declared → Bool) → List (ℕ × LinkTable) → LinkFacts
over which passes links = record {
  declarations = which;
  normal = joined_status Normal passes links;
  build = joined_status Build passes links;
  dev = joined_status Development passes links;
  package_links = map (λ l. l.0) (filter (λ l. list_any passes l.1.declarations) links);
}

-- The link over these declarations of package links.
abbrev pub over_parts : LinkDeclarations → List (ℕ × List Declared) → LinkFacts
over_parts which parts = record {
  declarations = which;
  normal = platforms_status (platforms_of Normal (flat_map (λ x. x.1) parts));
  build = platforms_status (platforms_of Build (flat_map (λ x. x.1) parts));
  dev = platforms_status (platforms_of Development (flat_map (λ x. x.1) parts));
  package_links = map (λ x. x.0) (filter (λ x. list_any (λ d. true) x.1) parts);
}

-- The declarations at `places`.
abbrev pub at_places : List Declared → List ℕ → List Declared
at_places declarations places = filter_map (λ j. slice_get declarations j) places

-- The links with these numbers, each with its number.
abbrev pub links_at : Tables → List ℕ → List (ℕ × LinkTable)
links_at t numbers = filter_map (λ k. option_map (λ l. (k, l)) (slice_get t.links k)) numbers

-- The links with their numbers, from `k` on.
abbrev pub numbered : ℕ → List LinkTable → List (ℕ × LinkTable)
numbered k [] = []
numbered k (l ∷ ls) = (k, l) ∷ numbered (k + 1) ls

-- The links that leave package `p` under `name`, with their numbers.
abbrev pub links_named : Tables → ℕ → Text → List (ℕ × LinkTable)
links_named t p name = filter (λ l. (l.1.from == p) && bytes_eq l.1.name name) (numbered 0 t.links)

abbrev pub has_declaration : LinkDeclarations → LinkTable → Bool
has_declaration which link = list_any (λ d. includes which d) link.declarations

-- The link over the covered declarations of all links that leave package `p` under one name.
abbrev pub by_name : Tables → ℕ → LinkDeclarations → Text → LinkFacts
by_name t p which d = over which (λ x. includes which x) (links_named t p d)

-- The link over the covered declarations of one package link, if there are any.
abbrev pub half_over : LinkDeclarations → ℕ → LinkTable → Option LinkFacts
half_over which k link = if has_declaration which link then Some (over which (λ d. includes which d) ((k, link) ∷ [])) else None

abbrev pub half_of : Tables → LinkDeclarations → ℕ → Option LinkFacts
half_of t which k = option_map_or (half_over which k) (slice_get t.links k) None

-- `places` ascend and are exactly those of the declarations that pass.
pub record ArePassing (passes : Declared → Bool) (declarations : List Declared) (places : List ℕ) : Type 0 where
  pub ascend : AllPairs (λ a b. a < b) places
  pub exact : (j : ℕ) → Contains places j ↔ ((d : Declared) × (slice_get declarations j ≡ Some d) × IsTrue (passes d))
