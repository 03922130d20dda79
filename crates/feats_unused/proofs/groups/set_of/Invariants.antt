use Rattle.std.proofs.Common.{take}
use Rattle.cargo_workspaces.specs.Views.{texts}
use Rattle.feats_unused.specs.inner.Groups.{HasTexts}
use Rattle.feats_unused.proofs.groups.set_of.Given as goal

abbrev pub invariant-loop-name : goal.invariant-loop-name
invariant-loop-name l = HasTexts l.set (texts (take l.name-index l.names))
