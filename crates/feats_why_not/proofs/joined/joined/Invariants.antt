use Rattle.std.proofs.Common.{◌≡◌, ◌++◌}
use Rattle.std.specs.Iterator.Adapters.{zip_first, zip_second}
use Rattle.std.specs.Slice.Iter.{iter_rest}
use Rattle.feats_why_not.specs.inner.Lists.{joined, texts_of}
use Rattle.feats_why_not.proofs.joined.joined.Given as goal

abbrev pub invariant-loop-first : goal.invariant-loop-first
invariant-loop-first l =
    joined (texts_of l.firsts) (texts_of l.seconds)
    ≡ texts_of l.texts.items ++ joined (texts_of (iter_rest (zip_first l.first-iterator))) (texts_of (iter_rest (zip_second l.first-iterator)))
