use Rattle.std.proofs.Common.{◌≡◌, ◌++◌, drop}
use Rattle.build_summaries.specs.Views.{texts}
use Rattle.build_summaries.proofs.paths.push_down.Given as goal

abbrev pub invariant-loop-name : goal.invariant-loop-name
invariant-loop-name l = texts l.initial.way.items ++ texts l.names ≡ texts l.way.items ++ texts (drop l.name-index l.names)
