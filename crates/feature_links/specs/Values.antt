-- Edges and their links as plain values.
use Rattle.std.specs.Prelude.{ℕ, Option}
use Rattle.std.specs.Option.{option_map, option_map_or}
use Rattle.guppy_packages.specs.Platform.{Status, never_status, impl_status}
use Rattle.feature_labels.specs.declared.link_declarations.LinkDeclarations.{LinkDeclarations}
use Rattle.feature_links.specs.declared.link.held.LinkStatuses.{LinkStatuses}
use Rattle.feature_links.specs.declared.link.held.HeldStatus.{HeldStatus}
use Rattle.feature_links.specs.declared.link.ConditionalLinkImpl.{ConditionalLinkImpl}
use Rattle.feature_links.specs.declared.link.EnabledLink.{EnabledLink}
use Rattle.feature_links.specs.declared.edge.WeakIndex.{WeakIndex}
use Rattle.feature_links.specs.declared.edge.WeakSlashImpl.{WeakSlashImpl}
use Rattle.feature_links.specs.declared.edge.FeatureEdge.{FeatureEdge}
use Rattle.feature_links.specs.declared.edge.FeatureEdge.TheVariants.{FeatureToBase, DependenciesSection, NamedFeature, NamedFeatureDepColon, NamedFeatureWithSlash, NamedFeatureWithWeakSlash}
use Rattle.feature_links.specs.Links.{LinkFacts}
use Rattle.feature_links.specs.Facts.{WeakFacts, EdgeFacts, base_edge, feature_edge, colon_edge, strong_edge, weak_edge, section_edge}

-- The status that is held: never if there are no platforms.
abbrev pub held_status : HeldStatus → Status
held_status s = option_map_or (λ p. impl_status p.value) s.platform never_status

-- The declarations that a link covers, and a status for each kind.
pub record StatusFacts : Type 0 where
  pub declarations : LinkDeclarations
  pub normal : Status
  pub build : Status
  pub dev : Status

abbrev pub statuses_of : LinkStatuses → StatusFacts
statuses_of s = record { declarations = s.declarations; normal = held_status s.normal; build = held_status s.build; dev = held_status s.dev }

-- The content of a link.
abbrev pub link_facts : ConditionalLinkImpl → LinkFacts
link_facts l = record {
  declarations = (statuses_of l.statuses.value).declarations;
  normal = (statuses_of l.statuses.value).normal;
  build = (statuses_of l.statuses.value).build;
  dev = (statuses_of l.statuses.value).dev;
  package_links = l.package_link_ixs.items;
}

abbrev pub half_facts : EnabledLink → Option LinkFacts
half_facts half = option_map (λ link. link_facts link.value) half.link

-- The number of a weak link.
abbrev pub weak_number : WeakIndex → ℕ
weak_number index = index.0

-- The full link of a weak edge.
abbrev pub weak_link_of : WeakSlashImpl → LinkFacts
weak_link_of weak = link_facts weak.link

abbrev pub weak_facts_of : WeakSlashImpl → WeakFacts
weak_facts_of weak = record { index = weak_number weak.index; required = half_facts weak.required; optional = half_facts weak.optional }

abbrev pub edge_facts : FeatureEdge → EdgeFacts
edge_facts FeatureToBase = base_edge
edge_facts (DependenciesSection link) = section_edge (link_facts link)
edge_facts NamedFeature = feature_edge
edge_facts (NamedFeatureDepColon link) = colon_edge (link_facts link)
edge_facts (NamedFeatureWithSlash link) = strong_edge (link_facts link)
edge_facts (NamedFeatureWithWeakSlash weak) = weak_edge (weak_link_of weak.value) (weak_facts_of weak.value)
