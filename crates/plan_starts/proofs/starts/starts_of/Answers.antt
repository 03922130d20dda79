use Rattle.std.proofs.Common.{true, false}
use Rattle.plan_starts.specs.TargetViews.{rules_text}
use Rattle.plan_starts.proofs.StartLemmas.{started_among, starts_are, unmet_among}
use Rattle.plan_starts.proofs.starts.starts_of.Goals as goal

pub returns : goal.returns
returns g c =
    let r = rules_text g.P.Platform.holds c.args.rules.now in
    let selected = c.args.selected.now in
    let marks = c.in_ok-marks.ensures.marks in
    starts_are r selected c.in_ok-macros.macros.items c.in_ok-others.others.items c.in_ok-hosts.hosts.items c.deref.result.now c.deref-2.result.now
    c.in_ok-dev_macros.dev_macros.items c.in_ok-dev_others.dev_others.items c.in_ok-unmet.unmet
    (started_among r selected c.in_ok-marks.marks false true _ marks c.in_ok-macros.ensures)
    (started_among r selected c.in_ok-marks.marks false false _ marks c.in_ok-others.ensures)
    c.deref.ensures.value c.deref-2.ensures.value
    c.in_ok-hosts.ensures
    (started_among r selected c.in_ok-marks.marks true true _ marks c.in_ok-dev_macros.ensures)
    (started_among r selected c.in_ok-marks.marks true false _ marks c.in_ok-dev_others.ensures)
    (unmet_among r selected c.in_ok-marks.marks _ marks c.in_ok-unmet.ensures)
