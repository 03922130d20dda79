use Rattle.std.proofs.Common.{◌≡◌, ◌++◌, filter, map, drop}
use Rattle.feats_why.specs.Lines.{row_of}
use Rattle.feats_why.specs.Relations.{is_shown}
use Rattle.feats_why.specs.Settings.{settings_text}
use Rattle.plan_whys.specs.StepViews.{why_text}
use Rattle.feats_why.specs.inner.Labelled.{packages_of}
use Rattle.feats_why.specs.inner.Rows.{row_text}
use Rattle.feats_why.proofs.rows.rows_of.Given as goal

abbrev pub invariant-loop-step : goal.invariant-loop-step
invariant-loop-step g l =
    let row = row_of (packages_of l.labels) (settings_text g.P.Platform.holds l.settings) in
    map row (filter is_shown (map why_text l.steps)) ≡ map row_text l.rows.items ++ map row (filter is_shown (map why_text (drop l.step-index l.steps)))
