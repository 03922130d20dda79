use Rattle.std.proofs.Common.{◌≡◌, ◌++◌, map, drop}
use Rattle.cargo_workspaces.specs.Views.{texts}
use Rattle.feats_diff.specs.texts.inner.Words.{word_text}
use Rattle.feats_diff.proofs.texts.columns.push_names.Given as goal

abbrev pub invariant-loop-name : goal.invariant-loop-name
invariant-loop-name l =
    map word_text l.initial.words.items ++ map (λ name. l.mark ++ name) (texts l.names) ≡ map word_text l.words.items ++ map (λ name. l.mark ++ name) (texts (drop l.name-index l.names))
