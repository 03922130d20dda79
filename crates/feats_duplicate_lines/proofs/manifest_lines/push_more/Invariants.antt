use Rattle.std.proofs.Common.{◌≡◌, ◌++◌, flat_map, drop}
use Rattle.std.specs.String.{string_bytes}
use Rattle.cargo_workspaces.specs.Views.{texts}
use Rattle.feats_duplicate_lines.specs.Lines.{after_comma}
use Rattle.feats_duplicate_lines.proofs.manifest_lines.push_more.Given as goal

abbrev pub invariant-loop-feature : goal.invariant-loop-feature
invariant-loop-feature l =
    string_bytes l.initial.text ++ flat_map after_comma (texts l.features) ≡ string_bytes l.text ++ flat_map after_comma (texts (drop l.feature-index l.features))
