use Rattle.std.proofs.Common.{◌+◌, length}
use Rattle.cargo_workspaces.specs.Views.{package_text, texts}
use Rattle.feats_unused.specs.inner.Marks.{blanks}
use Rattle.feats_unused.proofs.MarkLemmas.{IsWalked}
use Rattle.feats_unused.proofs.used.used_features.Given as goal

abbrev pub invariant-loop-number : goal.invariant-loop-number
invariant-loop-number l = IsWalked (texts l.asked) (package_text l.«package»).features l.used.items l.waiting.items

abbrev pub decreases-loop-number : goal.decreases-loop-number
decreases-loop-number l = blanks l.used.items + length l.waiting.items
