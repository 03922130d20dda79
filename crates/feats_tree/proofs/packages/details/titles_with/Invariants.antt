use Rattle.std.proofs.Common.{◌≡◌, ◌++◌, map}
use Rattle.std.specs.Iterator.Adapters.{zip_first, zip_second}
use Rattle.std.specs.Slice.Iter.{iter_rest}
use Rattle.std.specs.String.{string_bytes}
use Rattle.feats_tree.specs.trees.Titles.{detail_text, title_text}
use Rattle.feats_tree.specs.packages.Titles.{titles_with}
use Rattle.feats_tree.proofs.packages.details.titles_with.Given as goal

abbrev pub invariant-loop-title : goal.invariant-loop-title
invariant-loop-title l =
    titles_with (map string_bytes l.titles) (map detail_text l.details)
    ≡ map title_text l.list.items ++ titles_with (map string_bytes (iter_rest (zip_first l.title-iterator))) (map detail_text (iter_rest (zip_second l.title-iterator)))
