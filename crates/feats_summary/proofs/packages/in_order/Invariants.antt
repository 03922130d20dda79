use Rattle.std.proofs.Common.{◌≡◌, ◌++◌}
use Rattle.cargo_workspaces.specs.Views.{texts}
use Rattle.feats_summary.proofs.packages.in_order.Given as goal

abbrev pub invariant-loop-name : goal.invariant-loop-name
invariant-loop-name l = texts l.set.keys ≡ texts l.names.items ++ texts l.name-iterator
