use Rattle.std.proofs.Common.{◌≡◌, ◌++◌, drop}
use Rattle.build_summaries.specs.Paths.{up}
use Rattle.build_summaries.specs.Views.{texts}
use Rattle.build_summaries.proofs.paths.push_up.Given as goal

abbrev pub invariant-loop-name : goal.invariant-loop-name
invariant-loop-name l = texts l.initial.way.items ++ up (texts l.names) ≡ texts l.way.items ++ up (texts (drop l._name-index l.names))
