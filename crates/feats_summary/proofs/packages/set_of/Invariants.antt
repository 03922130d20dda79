use Rattle.std.proofs.Common.{◌≡◌, [], drop}
use Rattle.cargo_workspaces.specs.Views.{texts}
use Rattle.feats_summary.specs.Packages.{sorted}
use Rattle.feats_summary.proofs.packages.set_of.Given as goal

abbrev pub invariant-loop-name : goal.invariant-loop-name
invariant-loop-name l = sorted [] (texts l.names) ≡ sorted (texts l.set.keys) (texts (drop l.name-index l.names))
