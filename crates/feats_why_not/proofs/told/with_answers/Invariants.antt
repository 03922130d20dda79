use Rattle.std.proofs.Common.{◌≡◌, ◌++◌, map}
use Rattle.std.specs.Prelude.{zip}
use Rattle.std.specs.Iterator.Adapters.{zip_first, zip_second}
use Rattle.std.specs.Slice.Iter.{iter_rest}
use Rattle.feats_why_not.specs.PartView.{part_text}
use Rattle.feats_why_not.specs.inner.Lists.{about_value, answer_text}
use Rattle.feats_why_not.proofs.told.with_answers.Given as goal

abbrev pub invariant-loop-part : goal.invariant-loop-part
invariant-loop-part l =
    zip (map part_text l.parts) (map answer_text l.answers)
    ≡ map about_value l.abouts.items ++ zip (map part_text (iter_rest (zip_first l.part-iterator))) (map answer_text (iter_rest (zip_second l.part-iterator)))
