use Rattle.std.proofs.Common.{◌∙◌, ◌++◌, ap, flat_map, map}
use Rattle.std.proofs.lemmas.List.{map-append}
use Rattle.feats_why.specs.ReasonedLines.{shown_rows}
use Rattle.feats_why.specs.Settings.{settings_text}
use Rattle.plan_whys.specs.StepViews.{reasoned_text}
use Rattle.feats_why.specs.inner.Labelled.{packages_of}
use Rattle.feats_why.specs.inner.Rows.{row_text}
use Rattle.feats_why.proofs.Loops.{flat_next}
use Rattle.feats_why.proofs.reason_rows.all_rows.Goals as goal

pub loop-step-preserved : goal.loop-step-preserved
loop-step-preserved g c =
    let rows = shown_rows (packages_of c.args.labels.now) (settings_text g.P.Platform.holds c.args.settings.now) in
    flat_next rows reasoned_text c.args.steps.now c.loop-step.step-index c.step-item.result
    (flat_map rows (map reasoned_text c.args.steps.now)) (map row_text c.loop-step.rows.items) (map row_text c.append.new.self.items)
    c.loop-step-test.true c.step-item.is c.loop-step.invariant
    (ap (map row_text) c.in_ok-append.ensures.items ∙ map-append row_text c.loop-step.rows.items c.in_ok-more.more.items
    ∙ ap (λ new. map row_text c.loop-step.rows.items ++ new) c.in_ok-more.ensures)
