use Rattle.std.proofs.Common.{subst, sym}
use Rattle.guppy_packages.specs.Tables.{Tables}
use Rattle.guppy_packages.specs.declared.direction.DependencyDirection.TheVariants.{Forward}
use Rattle.feature_core.specs.Built.{IsBuilt}
use Rattle.plan_whys.proofs.LinksSpotLemmas.{ends_below, ends_once, spots_linked}
use Rattle.plan_whys.proofs.links.ways.links_on.Goals as goal

pub links_between-requires-clause-below : goal.links_between-requires-clause-below
links_between-requires-clause-below c =
    let b = c.built-built.result.now in
    let built : IsBuilt c.packages.result.now b = subst (λ (t : Tables). IsBuilt t b) (sym c.packages.ensures) c.built-built.ensures in
    ends_below b c.new-table.result c.members-members.result.now c.node_count.result c.in_ok-pairs.pairs.items c.deref-2.result.now
    (c.content_of_graph.ensures.ends b Forward built) c.node_count.ensures c.new-table.ensures c.in_ok-pairs.ensures c.deref-2.ensures.value

pub links_between-requires-clause-once : goal.links_between-requires-clause-once
links_between-requires-clause-once c =
    ends_once c.visited-visited.result.now c.built-built.result.now c.new-table.result c.members-members.result.now c.in_ok-pairs.pairs.items c.deref-2.result.now
    c.built-built.ensures c.new-table.ensures c.in_ok-pairs.ensures c.deref-2.ensures.value

pub returns : goal.returns
returns c =
    spots_linked c.args.on.now c.visited-visited.result.now c.built-built.result.now c.new-table.result c.members-members.result.now c.in_ok-nodes.nodes.items c.deref.result.now
    c.in_ok-pairs.pairs.items c.deref-2.result.now c.in_ok-links.links.items
    c.visited-visited.ensures c.built-built.ensures c.new-table.ensures c.members-members.ensures.members c.in_ok-nodes.ensures c.deref.ensures.value c.in_ok-pairs.ensures c.deref-2.ensures.value c.in_ok-links.ensures
