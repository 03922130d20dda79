use Rattle.std.proofs.Common.{◌≡◌, ◌++◌}
use Rattle.std.specs.Str.Iter.{split_ascii_whitespace_text}
use Rattle.feats_words.specs.FeatureWords.{words_in}
use Rattle.feats_words.specs.Requests.{texts}
use Rattle.feats_words.proofs.splitting.push_words.Given as goal

-- The words so far, then those of the text that is left, are the words of the text.
abbrev pub invariant-loop-part : goal.invariant-loop-part
invariant-loop-part l = texts l.initial.words.items ++ words_in l.text ≡ texts l.words.items ++ words_in (split_ascii_whitespace_text l.part-iterator)
