use Rattle.std.proofs.Common.{◌≡◌, ◌++◌, flat_map, drop}
use Rattle.guppy_packages.specs.Items.{item_of}
use Rattle.cargo_workspaces.specs.Views.{texts}
use Rattle.cargo_workspaces.specs.Workspaces.{Text}
use Rattle.feats_unused.specs.Dead.{dependency_of}
use Rattle.feats_unused.proofs.dead.push_dependencies.Given as goal

abbrev pub invariant-loop-item : goal.invariant-loop-item
invariant-loop-item l =
    let f = λ (t : Text). dependency_of (item_of t) in
    texts l.initial.names.items ++ flat_map f (texts l.items) ≡ texts l.names.items ++ flat_map f (texts (drop l.item-index l.items))
