use Rattle.std.proofs.Common.{◌≡◌, ◌++◌, map}
use Rattle.std.specs.Prelude.{string_bytes}
use Rattle.std.specs.Iterator.Adapters.{zip_first, zip_second}
use Rattle.std.specs.Slice.Iter.{iter_rest}
use Rattle.feats_why_not.specs.inner.Lists.{heads_by, optional_texts, texts_of}
use Rattle.feats_why_not.proofs.texts.heads_by.Given as goal

abbrev pub invariant-loop-title : goal.invariant-loop-title
invariant-loop-title l =
    heads_by l.form (map string_bytes l.titles) (optional_texts l.messages)
    ≡ texts_of l.heads.items ++ heads_by l.form (map string_bytes (iter_rest (zip_first l.title-iterator))) (optional_texts (iter_rest (zip_second l.title-iterator)))
