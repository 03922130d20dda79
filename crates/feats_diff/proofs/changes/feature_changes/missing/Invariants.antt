use Rattle.std.proofs.Common.{◌≡◌, ◌++◌, drop, filter, not}
use Rattle.cargo_workspaces.specs.Views.{texts}
use Rattle.feats_diff.specs.changes.inner.Names.{is_in}
use Rattle.feats_diff.proofs.changes.feature_changes.missing.Given as goal

abbrev pub invariant-loop-name : goal.invariant-loop-name
invariant-loop-name l = filter (λ name. not (is_in l.set name)) (texts l.names) ≡ texts l.found.items ++ filter (λ name. not (is_in l.set name)) (texts (drop l.name-index l.names))
