use Rattle.std.proofs.Common.{◌≡◌, ◌++◌, List, flat_map, drop}
use Rattle.std.specs.String.{string_bytes}
use Rattle.cargo_workspaces.specs.Workspaces.{Text}
use Rattle.feats_lines.specs.Repeats.{HasRepeated}
use Rattle.feats_duplicate_lines.specs.Lines.{label_more}
use Rattle.feats_duplicate_lines.specs.Views.{dependents_text}
use Rattle.feats_duplicate_lines.proofs.asked.push_more.Given as goal

abbrev pub invariant-loop-dependent : goal.invariant-loop-dependent
invariant-loop-dependent l =
    (names : List Text) → HasRepeated l.repeated names →
    string_bytes l.initial.text ++ flat_map (label_more names) (dependents_text l.dependents) ≡ string_bytes l.text ++ flat_map (label_more names) (dependents_text (drop l.dependent-index l.dependents))
