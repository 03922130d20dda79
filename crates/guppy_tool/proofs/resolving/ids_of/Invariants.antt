use Rattle.std.proofs.Common.{◌≡◌, map, take}
use Rattle.feature_labels.specs.Names.{id_of}
use Rattle.guppy_tool.specs.Words.{given_of}
use Rattle.guppy_tool.proofs.resolving.ids_of.Given as goal

-- The ids so far.
abbrev pub invariant-loop-id : goal.invariant-loop-id
invariant-loop-id l = map id_of l.ids.items ≡ map given_of (take l.id-index l.given)
