use Rattle.std.proofs.Common.{◌≡◌, ◌++◌, map, drop}
use Rattle.feats_list.specs.platforms.Lists.{listed_of}
use Rattle.feats_list.specs.platforms.Views.{place_text}
use Rattle.feats_list.specs.platforms.inner.Counts.{counted_text}
use Rattle.feats_list.specs.platforms.inner.Listed.{listed_text}
use Rattle.feats_list.proofs.platforms.listed.listed_each.Given as goal

abbrev pub invariant-loop-one : goal.invariant-loop-one
invariant-loop-one g l =
    map (listed_of (map (place_text g.P.Platform.holds) l.places)) (map counted_text l.counted)
    ≡ map listed_text l.list.items ++ map (listed_of (map (place_text g.P.Platform.holds) l.places)) (map counted_text (drop l.one-index l.counted))
