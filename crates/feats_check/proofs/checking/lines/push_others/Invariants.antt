use Rattle.std.proofs.Common.{◌≡◌, ◌++◌, ◌∷◌, drop, flat_map, map}
use Rattle.std.specs.String.{string_bytes}
use Rattle.cargo_workspaces.specs.Workspaces.{Text}
use Rattle.feats_check.proofs.checking.lines.push_others.Given as goal

abbrev pub invariant-loop-lines : goal.invariant-loop-lines
invariant-loop-lines l =
    let after_gaps = flat_map (λ (t : Text). 10 ∷ t) in
    l.initial.text.items ++ after_gaps (map string_bytes l.others) ≡ l.text.items ++ after_gaps (map string_bytes (drop l.lines-index l.others))
