use Rattle.std.proofs.Common.{◌≡◌, ◌++◌, drop}
use Rattle.std.specs.Prelude.{flat_map}
use Rattle.feats_answers.specs.AnswerViews.{texts_of}
use Rattle.feats_answers.specs.Gathered.{after_gap}
use Rattle.feats_answers.proofs.gathered.push_more.Given as goal

abbrev pub invariant-loop-one : goal.invariant-loop-one
invariant-loop-one l =
    l.initial.text.items ++ flat_map (after_gap l.format) (texts_of l.more)
    ≡ l.text.items ++ flat_map (after_gap l.format) (texts_of (drop l.one-index l.more))
