use Rattle.std.proofs.Common.{◌≡◌, ◌++◌, map, drop}
use Rattle.std.specs.String.{string_bytes}
use Rattle.feats.specs.comparisons.differences.Whys.{without_feed}
use Rattle.feats.proofs.comparisons.differences.whys.without_feeds.Given as goal

abbrev pub invariant-loop-line : goal.invariant-loop-line
invariant-loop-line l =
    map without_feed (map string_bytes l.lines) ≡ map string_bytes l.whys.items ++ map without_feed (map string_bytes (drop l.line-index l.lines))
