use Rattle.std.proofs.Common.{◌≡◌, ◌++◌, map}
use Rattle.feats_list.specs.platforms.inner.Counts.{counted_text, pair_text}
use Rattle.feats_list.proofs.platforms.counted.in_order.Given as goal

abbrev pub invariant-loop-spec : goal.invariant-loop-spec
invariant-loop-spec l = map pair_text l.counts.entries ≡ map counted_text l.list.items ++ map pair_text l.spec-iterator
