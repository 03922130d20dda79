use Rattle.std.proofs.Common.{◌≡◌, ◌++◌, flat_map, map, drop}
use Rattle.std.specs.String.{string_bytes}
use Rattle.feats_lines.specs.Lines.{spaced}
use Rattle.feats_lines.proofs.table.push_features.Given as goal

abbrev pub invariant-loop-feature : goal.invariant-loop-feature
invariant-loop-feature l =
    string_bytes l.initial.text ++ flat_map spaced (map (λ f. f.now) l.features) ≡ string_bytes l.text ++ flat_map spaced (map (λ f. f.now) (drop l.feature-index l.features))
