use Rattle.std.proofs.Common.{◌≡◌, ◌++◌, flat_map, drop}
use Rattle.std.specs.String.{string_bytes}
use Rattle.cargo_workspaces.specs.Views.{texts}
use Rattle.feats_list.specs.platforms.Lines.{after_comma}
use Rattle.feats_list.proofs.platforms.lines.push_more.Given as goal

abbrev pub invariant-loop-name : goal.invariant-loop-name
invariant-loop-name l =
    string_bytes l.initial.text ++ flat_map after_comma (texts l.names) ≡ string_bytes l.text ++ flat_map after_comma (texts (drop l.name-index l.names))
