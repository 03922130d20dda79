use Rattle.std.proofs.Common.{◌≡◌, length, take}
use Rattle.shortest_routes.specs.inner.Links.{AreBefore}
use Rattle.shortest_routes.proofs.links.lists_before.Given as goal

abbrev pub invariant-loop-link : goal.invariant-loop-link
invariant-loop-link l = record {
  size : length l.lists.items ≡ l.count;
  are : AreBefore (take l.link-index l.links) l.lists.items;
}
