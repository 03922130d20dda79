use Rattle.std.proofs.Common.{◌≡◌, ◌++◌, None, drop, map}
use Rattle.feats_lines.specs.parts.Views.{row_text}
use Rattle.feats_routes.specs.Lines.{rows_from}
use Rattle.feats_routes.specs.Shown.{shown_text}
use Rattle.feats_routes.proofs.lines.rows_of.Given as goal

abbrev pub invariant-loop-node : goal.invariant-loop-node
invariant-loop-node g l =
    let s = shown_text g.P.Platform.holds l.shown in
    rows_from s None l.nodes ≡ map row_text l.rows.items ++ rows_from s l.before (drop l.node-index l.nodes)
