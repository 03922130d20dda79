use Rattle.std.proofs.Common.{[], take}
use Rattle.feature_links.specs.Links.{links_at}
use Rattle.feature_links.specs.inner.Collected.{HasParts, wanted_parts}
use Rattle.feature_links.proofs.link.from_declarations.LinkParts.add_all.Given as goal

abbrev pub invariant-loop-link_ix : goal.invariant-loop-link_ix
invariant-loop-link_ix l = HasParts l.initial.self [] → HasParts l.self (wanted_parts l.which l.places (links_at l.graph (take l.link_ix-index l.links)))
