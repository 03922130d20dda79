use Rattle.std.proofs.Common.{◌≡◌, ◌++◌, flat_map, map, drop}
use Rattle.std.specs.String.{string_bytes}
use Rattle.feats_lines.specs.Lines.{spaced}
use Rattle.feats_diff.specs.texts.inner.Words.{word_text}
use Rattle.feats_diff.proofs.texts.columns.push_words.Given as goal

abbrev pub invariant-loop-word : goal.invariant-loop-word
invariant-loop-word l =
    string_bytes l.initial.text ++ flat_map spaced (map word_text l.words) ≡ string_bytes l.text ++ flat_map spaced (map word_text (drop l.word-index l.words))
