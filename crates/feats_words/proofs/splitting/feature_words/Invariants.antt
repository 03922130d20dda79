use Rattle.std.proofs.Common.{◌≡◌, ◌++◌, flat_map, drop}
use Rattle.feats_words.specs.FeatureWords.{words_in}
use Rattle.feats_words.specs.Requests.{texts}
use Rattle.feats_words.proofs.splitting.feature_words.Given as goal

abbrev pub invariant-loop-value : goal.invariant-loop-value
invariant-loop-value l = flat_map words_in (texts l.values) ≡ texts l.words.items ++ flat_map words_in (texts (drop l.value-index l.values))
