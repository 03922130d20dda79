use Rattle.std.proofs.Common.{◌≡◌, ◌++◌, flat_map, map, drop}
use Rattle.feats_diff.specs.texts.Lines.{why_rows}
use Rattle.feats_diff.specs.texts.Views.{turned_text}
use Rattle.feats_lines.specs.parts.Views.{row_text}
use Rattle.feats_diff.proofs.texts.rows.push_whys.Given as goal

abbrev pub invariant-loop-one : goal.invariant-loop-one
invariant-loop-one l =
    map row_text l.initial.rows.items ++ flat_map (λ t. why_rows t.why) (map turned_text l.comes)
    ≡ map row_text l.rows.items ++ flat_map (λ t. why_rows t.why) (map turned_text (drop l.one-index l.comes))
