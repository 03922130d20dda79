use Rattle.std.proofs.Common.{◌≡◌, drop, map}
use Rattle.guppy_packages.specs.Rows.{texts}
use Rattle.guppy_tool.specs.Words.{given_of, ids_in}
use Rattle.row_files.proofs.FirstFaultLemmas.{with_front}
use Rattle.guppy_tool.proofs.words.ids.Given as goal

-- The ids so far, then the ids of the words to come, are the ids of all words.
abbrev pub invariant-loop-word : goal.invariant-loop-word
invariant-loop-word l = with_front (map given_of l.ids.items) (ids_in (drop l.word-index (texts l.words))) ≡ ids_in (texts l.words)
