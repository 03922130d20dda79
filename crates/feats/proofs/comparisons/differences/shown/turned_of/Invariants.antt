use Rattle.std.proofs.Common.{◌≡◌, ◌++◌, map, drop}
use Rattle.std.specs.String.{string_bytes}
use Rattle.cargo_workspaces.specs.Views.{texts}
use Rattle.feats_diff.specs.texts.Views.{turned_text}
use Rattle.feats.specs.comparisons.differences.Shown.{turned_from}
use Rattle.feats.proofs.comparisons.differences.shown.turned_of.Given as goal

abbrev pub invariant-loop-number : goal.invariant-loop-number
invariant-loop-number l =
    turned_from (map string_bytes l.whys) 0 (texts l.names) ≡ map turned_text l.turned.items ++ turned_from (map string_bytes l.whys) l.number (texts (drop l.number l.names))
