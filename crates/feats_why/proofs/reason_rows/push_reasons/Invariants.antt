use Rattle.std.proofs.Common.{◌≡◌, drop, fold, map}
use Rattle.feats_why.specs.ReasonedLines.{with_words}
use Rattle.feats_why.specs.Reasons.{reason_words}
use Rattle.feats_why.specs.Settings.{settings_text}
use Rattle.plan_whys.specs.StepViews.{reason_text, spot_text}
use Rattle.feats_why.specs.inner.Labelled.{packages_of}
use Rattle.feats_why.specs.inner.Rows.{row_text}
use Rattle.feats_why.proofs.reason_rows.push_reasons.Given as goal

abbrev pub invariant-loop-reason : goal.invariant-loop-reason
invariant-loop-reason g l =
    let words = reason_words (packages_of l.labels) (settings_text g.P.Platform.holds l.settings) (spot_text l.at) in
    fold with_words (map row_text l.initial.rows.items) (map words (map reason_text l.reasons))
    ≡ fold with_words (map row_text l.rows.items) (map words (map reason_text (drop l.reason-index l.reasons)))
