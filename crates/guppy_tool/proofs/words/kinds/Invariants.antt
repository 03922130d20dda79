use Rattle.std.proofs.Common.{◌≡◌, List}
use Rattle.std.proofs.lemmas.Iterator.{YieldsList}
use Rattle.std.specs.Str.Iter.{split_steps}
use Rattle.std.specs.Str.Pattern.{FindsChar}
use Rattle.guppy_packages.specs.Rows.{Text}
use Rattle.guppy_tool.specs.Faults.{usage}
use Rattle.guppy_tool.specs.Words.{kind_in, kinds_in}
use Rattle.row_files.specs.FirstFault.{each_or}
use Rattle.row_files.proofs.FirstFaultLemmas.{with_front}
use Rattle.guppy_tool.proofs.words.kinds.Given as goal

-- The kinds so far, then the kinds of the parts to come, are the kinds of the word.
abbrev pub invariant-loop-part : goal.invariant-loop-part
invariant-loop-part l =
    (parts : List Text)
    × YieldsList (split_steps FindsChar (λ a b. b ≡ a)) (λ t. t.now) l.part-iterator parts
    × (with_front l.kinds.items (each_or kind_in (λ part. usage) parts) ≡ kinds_in l.word)
