use Rattle.std.proofs.Common.{◌≡◌, ◌++◌, drop, flat_map, map}
use Rattle.feats_why.specs.ReasonedLines.{shown_rows}
use Rattle.feats_why.specs.Settings.{settings_text}
use Rattle.plan_whys.specs.StepViews.{reasoned_text}
use Rattle.feats_why.specs.inner.Labelled.{packages_of}
use Rattle.feats_why.specs.inner.Rows.{row_text}
use Rattle.feats_why.proofs.reason_rows.all_rows.Given as goal

abbrev pub invariant-loop-step : goal.invariant-loop-step
invariant-loop-step g l =
    let rows = flat_map (shown_rows (packages_of l.labels) (settings_text g.P.Platform.holds l.settings)) in
    rows (map reasoned_text l.steps) ≡ map row_text l.rows.items ++ rows (map reasoned_text (drop l.step-index l.steps))
