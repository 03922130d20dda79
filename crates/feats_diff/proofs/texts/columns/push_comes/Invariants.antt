use Rattle.std.proofs.Common.{◌≡◌, ◌++◌, map, drop}
use Rattle.std.specs.Prelude.{codes}
use Rattle.feats_diff.specs.texts.Views.{turned_text}
use Rattle.feats_diff.specs.texts.inner.Words.{word_text}
use Rattle.feats_diff.proofs.texts.columns.push_comes.Given as goal

abbrev pub invariant-loop-one : goal.invariant-loop-one
invariant-loop-one l =
    map word_text l.initial.words.items ++ map (λ t. codes "+" ++ t.name) (map turned_text l.comes)
    ≡ map word_text l.words.items ++ map (λ t. codes "+" ++ t.name) (map turned_text (drop l.one-index l.comes))
