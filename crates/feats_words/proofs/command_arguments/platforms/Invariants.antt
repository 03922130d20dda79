use Rattle.std.proofs.Common.{◌≡◌, map, drop}
use Rattle.feats_words.specs.Arguments.{platforms}
use Rattle.feats_words.specs.Requests.{texts}
use Rattle.feats_words.specs.Views.{platform_text}
use Rattle.feats_words.proofs.Each.{prefixed}
use Rattle.feats_words.proofs.command_arguments.platforms.Given as goal

abbrev pub invariant-loop-word : goal.invariant-loop-word
invariant-loop-word l = platforms (texts l.words) ≡ prefixed (map platform_text l.platforms.items) (platforms (texts (drop l.word-index l.words)))
