use Rattle.std.proofs.Common.{◌≡◌, ◌++◌, flat_map, drop}
use Rattle.std.specs.String.{string_bytes}
use Rattle.cargo_workspaces.specs.Views.{texts}
use Rattle.feats_list.specs.features.Lines.{after_space}
use Rattle.feats_list.proofs.features.lines.push_more.Given as goal

abbrev pub invariant-loop-item : goal.invariant-loop-item
invariant-loop-item l =
    string_bytes l.initial.text ++ flat_map after_space (texts l.items) ≡ string_bytes l.text ++ flat_map after_space (texts (drop l.item-index l.items))
