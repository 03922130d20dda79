-- Texts that are in a list more than once.
use Rattle.std.specs.Prelude.{◌≡◌, List}
use Rattle.std.specs.Borrow.{Bor}
use Rattle.std.specs.List.{list_any}
use Rattle.std.specs.Ordering.{is_eq}
use Rattle.std.specs.BTreeSet.{BTreeSet}
use Rattle.cargo_workspaces.specs.Workspaces.{Text, text_cmp}
use Rattle.feats_lines.specs.Lines.{is_repeated}

-- A set has the texts that are in the list more than once.
abbrev pub HasRepeated : BTreeSet (Bor Text) → List Text → Type 0
HasRepeated set texts = (q : Bor Text) → list_any (λ k. is_eq (text_cmp q.now k.now)) set.keys ≡ is_repeated texts q.now
