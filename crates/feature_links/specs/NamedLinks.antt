-- The links of a package under a name.
use Rattle.std.specs.Prelude.{◌≡◌, ◌&&◌, ◌==◌, ℕ, Bool, false, List, filter, map, slice_get}
use Rattle.std.specs.Option.{option_map_or}
use Rattle.std.specs.Str.{bytes_eq}
use Rattle.guppy_packages.specs.Rows.{Text}
use Rattle.guppy_packages.specs.Tables.{Tables}
use Rattle.feature_links.specs.declared.link_groups.LinkGroups.{LinkGroups}
use Rattle.feature_links.specs.Links.{links_named}

-- The numbers of the links that leave package `p` under `name`, ascending.
abbrev pub link_numbers : Tables → ℕ → Text → List ℕ
link_numbers t p name = map (λ l. l.0) (links_named t p name)

-- Whether link `k` leaves package `p` under `name`.
abbrev pub is_link_under : Tables → ℕ → Text → ℕ → Bool
is_link_under t p name k = option_map_or (λ l. (l.from == p) && bytes_eq l.name name) (slice_get t.links k) false

-- The numbers that `groups` has for package `p` and `name`.
abbrev pub numbers_under : LinkGroups → ℕ → Text → List ℕ
numbers_under groups p name = filter (is_link_under groups.graph.now p name) groups.links.items

-- `groups` has the numbers of the tables' links, for each package and name.
abbrev pub AreNamedLinks : Tables → LinkGroups → Type 0
AreNamedLinks t groups = (p : ℕ) (name : Text) → numbers_under groups p name ≡ link_numbers t p name
