-- Edges and their links as plain values.
use Rattle.std.specs.Prelude.{ℕ, Bool, true, false, not, ◌&&◌, Option, None, Some}
use Rattle.std.specs.Option.{option_map_or}
use Rattle.guppy_packages.specs.Platform.{Status, never_status, always_status, spec_status}
use Rattle.walk_engine.specs.declared.walks.Half.{Half}
use Rattle.walk_engine.specs.declared.walks.Half.TheVariants.{Full, Required, Optional}
use Rattle.feature_links.specs.Links.{LinkFacts}

-- The number of a weak edge's weak link, and its two halves.
pub record WeakFacts : Type 0 where
  pub index : ℕ
  pub required : Option LinkFacts
  pub optional : Option LinkFacts

-- An edge as a plain value.
pub data EdgeFacts : Type 0 where
  base_edge : EdgeFacts
  feature_edge : EdgeFacts
  colon_edge : LinkFacts → EdgeFacts
  strong_edge : LinkFacts → EdgeFacts
  weak_edge : LinkFacts → WeakFacts → EdgeFacts
  section_edge : LinkFacts → EdgeFacts

-- The link of a conditional edge.
abbrev pub full_link : EdgeFacts → Option LinkFacts
full_link base_edge = None
full_link feature_edge = None
full_link (colon_edge l) = Some l
full_link (strong_edge l) = Some l
full_link (weak_edge l halves) = Some l
full_link (section_edge l) = Some l

-- The halves of a weak edge.
abbrev pub halves_of : EdgeFacts → Option WeakFacts
halves_of base_edge = None
halves_of feature_edge = None
halves_of (colon_edge l) = None
halves_of (strong_edge l) = None
halves_of (weak_edge l halves) = Some halves
halves_of (section_edge l) = None

-- The link of one of the edge's offers: the full link of a conditional edge, or a half of a weak one.
abbrev pub link_at : EdgeFacts → Half → Option LinkFacts
link_at f Full = full_link f
link_at f Required = option_map_or (λ w. w.required) (halves_of f) None
link_at f Optional = option_map_or (λ w. w.optional) (halves_of f) None

abbrev pub is_never : Status → Bool
is_never never_status = true
is_never always_status = false
is_never (spec_status specs) = false

abbrev pub is_dev_link : LinkFacts → Bool
is_dev_link l = is_never l.normal && is_never l.build

-- The edge is conditional, and its link has no declaration for normal use or for build scripts.
abbrev pub is_dev_edge : EdgeFacts → Bool
is_dev_edge f = option_map_or is_dev_link (full_link f) false

-- Some kind has a declaration that applies on some platform.
abbrev pub is_present : LinkFacts → Bool
is_present l = not (is_never l.normal && is_never l.build && is_never l.dev)

-- The edge is unconditional, or its link is present.
abbrev pub has_present_link : EdgeFacts → Bool
has_present_link f = option_map_or is_present (full_link f) true
