use Rattle.std.proofs.Common.{take, Contains}
use Rattle.cargo_workspaces.specs.Views.{package_text, texts}
use Rattle.cargo_workspaces.specs.Workspaces.{Text}
use Rattle.feats_unused.specs.inner.Marks.{HasName, IsMarked, Marks}
use Rattle.feats_unused.proofs.used.mark_names.Given as goal

abbrev pub invariant-loop-name : goal.invariant-loop-name
invariant-loop-name l = record {
  marks : Marks (HasName (package_text l.«package»).features (texts l.names)) l.initial.used.items l.used.items l.initial.waiting.items l.waiting.items;
  marked : (n : Text) → Contains (texts (take l.name-index l.names)) n → IsMarked (package_text l.«package»).features l.used.items n;
}
