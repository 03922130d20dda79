use Rattle.std.proofs.Common.{◌≡◌, ◌++◌, flat_map, map, drop}
use Rattle.feats_list.specs.platforms.Objects.{line_of}
use Rattle.feats_list.specs.platforms.inner.Listed.{listed_text}
use Rattle.feats_list.proofs.platforms.objects.lines.Given as goal

abbrev pub invariant-loop-one : goal.invariant-loop-one
invariant-loop-one l =
    flat_map line_of (map listed_text l.list) ≡ l.text.items ++ flat_map line_of (map listed_text (drop l.one-index l.list))
