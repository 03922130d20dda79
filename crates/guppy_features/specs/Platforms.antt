-- The offers of a platform.
use Rattle.std.specs.Prelude.{ℕ, Bool, true, false, List}
use Rattle.std.specs.List.{list_any}
use Rattle.std.specs.Option.{option_map_or}
use Rattle.std.specs.Str.{bytes_eq}
use Rattle.guppy_packages.specs.Platform.{Status, never_status, always_status, spec_status}
use Rattle.guppy_packages.specs.Rows.{Text}
use Rattle.guppy_packages.specs.declared.row.DependencyKind.{DependencyKind}
use Rattle.walk_engine.specs.declared.walks.Half.{Half}
use Rattle.feature_links.specs.Links.{LinkFacts}
use Rattle.feature_graph.specs.LinkValues.{Link, facts_of, status_for}
use Rattle.feature_graph.specs.Values.{Graph}
use Rattle.feature_graph.specs.Visits.{offered}

-- whether a status is always, or contains one of the specs
abbrev pub holds_where : List Text → Status → Bool
holds_where specs never_status = false
holds_where specs always_status = true
holds_where specs (spec_status listed) = list_any (λ s. list_any (bytes_eq s) specs) listed

-- whether the status of a link for one of the kinds holds on the platform
abbrev pub is_for_platform : List DependencyKind → List Text → LinkFacts → Bool
is_for_platform kinds specs facts = list_any (λ kind. holds_where specs (status_for kind facts)) kinds

abbrev pub is_platform_link : List DependencyKind → List Text → Link → Bool
is_platform_link kinds specs l = option_map_or (is_for_platform kinds specs) (facts_of l) false

-- the offers of the platform: those whose links hold on it
abbrev pub platform_offers : List DependencyKind → List Text → Graph → ℕ → Half → Bool
platform_offers kinds specs g e h = is_platform_link kinds specs (offered g e h)
