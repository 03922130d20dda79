use Rattle.std.proofs.Common.{◌≡◌, map, take}
use Rattle.guppy_packages.specs.Tables.{pair_of}
use Rattle.plan_whys.proofs.links.units.link_pairs.Given as goal

abbrev pub invariant-loop-number : goal.invariant-loop-number
invariant-loop-number l = l.pairs.items ≡ take l.number (map pair_of l.packages.links)
