use Rattle.std.proofs.Common.{◌≡◌, take}
use Rattle.std.specs.List.{list_any}
use Rattle.std.specs.HashSet.{contains}
use Rattle.guppy_features.proofs.listed_filters.set_of.Given as goal

abbrev pub invariant-items : goal.invariant-items
invariant-items g l = (q : _) → contains g.T.PartialEq.eq l.set q ≡ list_any (g.T.PartialEq.eq q) (take l.item-index l.items)
