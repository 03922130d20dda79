use Rattle.plan_whys.proofs.Joined.{sorted_links}
use Rattle.plan_whys.proofs.Tables.{links_made}
use Rattle.plan_whys.proofs.links.places.links_between.Goals as goal

pub returns : goal.returns
returns c =
    let numbers = c.args.numbers.now in
    let pairs = c.args.pairs.now in
    let made = links_made c.args.size numbers c.in_ok-places.places.items c.deref.result.now pairs c.in_ok-links.links.items c.in_ok-places.ensures c.deref.ensures.value c.requires.below c.in_ok-links.ensures in
    sorted_links numbers pairs c.in_ok-links.links.items c.sort_links.new.links.items c.requires.once made c.sort_links.ensures.permutation c.sort_links.ensures.sorted
