use Rattle.std.proofs.Common.{take}
use Rattle.cargo_workspaces.specs.Views.{texts}
use Rattle.feats_diff.specs.changes.inner.Names.{HasNames}
use Rattle.feats_diff.proofs.changes.feature_changes.set_of.Given as goal

abbrev pub invariant-loop-name : goal.invariant-loop-name
invariant-loop-name l = HasNames l.set (texts (take l.name-index l.names))
