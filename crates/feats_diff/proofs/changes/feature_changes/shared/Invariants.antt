use Rattle.std.proofs.Common.{◌≡◌, ◌++◌, drop, filter}
use Rattle.cargo_workspaces.specs.Views.{texts}
use Rattle.feats_diff.specs.changes.inner.Names.{is_in}
use Rattle.feats_diff.proofs.changes.feature_changes.shared.Given as goal

abbrev pub invariant-loop-name : goal.invariant-loop-name
invariant-loop-name l = filter (is_in l.set) (texts l.names) ≡ texts l.found.items ++ filter (is_in l.set) (texts (drop l.name-index l.names))
