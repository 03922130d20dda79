use Rattle.std.proofs.Common.{arith, ◌∙◌, ap}
use Rattle.feature_labels.specs.Names.{label_of}
use Rattle.plan_starts.specs.PackageVisits.{PairVisit, reaches_at}
use Rattle.plan_starts.proofs.VisitLemmas.{reached_within}
use Rattle.plan_starts.proofs.package_visit.PackageVisit.reaches.Goals as goal

pub returns : goal.returns
returns c =
    let here : PairVisit = record { count = c.self.inside.count; visit = c.self.inside.visited } in
    reached_within here c.args.second c.args.ix c.first_entry-first.result (label_of c.args.label) c.reaches.result
    (omega (arith, c.if-ix-self.false)) c.first_entry-first.ensures.entry c.reaches.ensures
    ∙ ap (λ (v : PairVisit). reaches_at v c.args.second c.args.ix (label_of c.args.label)) c.self.view_is
