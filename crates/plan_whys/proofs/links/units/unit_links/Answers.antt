use Rattle.std.proofs.Common.{◌∙◌, ap, arith, map}
use Rattle.cargo_plans.specs.plan_starts.PackageVisits.{PairVisit}
use Rattle.cargo_plans.specs.plan_steps.PlanViews.{plan_text}
use Rattle.cargo_plans.specs.plan_units.UnitViews.{unit_text}
use Rattle.plan_whys.proofs.UnitLemmas.{pairs_below, pairs_once, units_linked}
use Rattle.plan_whys.proofs.links.units.unit_links.Goals as goal

pub links_between-requires-clause-below : goal.links_between-requires-clause-below
links_between-requires-clause-below c =
    pairs_below c.packages-packages.result.now c.package_count-2.result c.in_ok-pairs.pairs.items c.deref-2.result.now c.facts.ensures c.package_count-2.ensures c.in_ok-pairs.ensures c.deref-2.ensures.value

pub links_between-requires-clause-once : goal.links_between-requires-clause-once
links_between-requires-clause-once c =
    pairs_once c.packages-packages.result.now c.in_ok-pairs.pairs.items c.deref-2.result.now c.facts.ensures c.in_ok-pairs.ensures c.deref-2.ensures.value

pub returns : goal.returns
returns c =
    units_linked (plan_text c.args.plan.now) c.built.result.now c.packages-packages.result.now c.package_count.result c.package_count-2.result (map unit_text c.units.result.now)
    c.in_ok-entries.entries.items c.deref.result.now c.in_ok-pairs.pairs.items c.deref-2.result.now c.in_ok-links.links.items
    c.built.ensures c.packages-packages.ensures (c.package_count.ensures.count ∙ ap (λ (v : PairVisit). v.count) c.on.ensures) c.units.ensures c.facts.ensures c.package_count-2.ensures (omega arith)
    c.in_ok-entries.ensures c.deref.ensures.value c.in_ok-pairs.ensures c.deref-2.ensures.value c.in_ok-links.ensures
