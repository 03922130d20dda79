use Rattle.std.proofs.Common.{List, ◌++◌, take}
use Rattle.std.specs.String.{string_bytes}
use Rattle.guppy_packages.specs.Rows.{Text, texts}
use Rattle.guppy_packages.specs.inner.Pushed.{IsPushed}
use Rattle.guppy_packages.proofs.row_texts.push_texts.Given as goal

abbrev pub invariant-loop-item : goal.invariant-loop-item
invariant-loop-item l = (before : List Text) → IsPushed before (string_bytes l.fn.text) l.fn.ends.items → IsPushed (before ++ texts (take l.item-index l.added)) (string_bytes l.text) l.ends.items
