use Rattle.std.proofs.Common.{◌∙◌, ℕ, List, ap, map}
use Rattle.digraphs.specs.Bits.{has}
use Rattle.feature_labels.specs.Names.{LabelName}
use Rattle.cargo_plans.specs.plan_starts.PackageVisits.{PairVisit}
use Rattle.cargo_plans.specs.plan_steps.PlanViews.{plan_text}
use Rattle.cargo_plans.specs.plan_units.UnitViews.{unit_text}
use Rattle.plan_starts.specs.step_visits.Visits.{is_start}
use Rattle.plan_whys.proofs.UnitLemmas.{roots_are}
use Rattle.plan_whys.proofs.links.units.root_units.Goals as goal

pub returns : goal.returns
returns c =
    roots_are (plan_text c.args.plan.now) c.built-built.result.now c.package_count.result (map unit_text c.units.result.now) (has c.in_ok-starts.starts) c.in_ok-roots.roots.items
    c.built-built.ensures (c.package_count.ensures.count ∙ ap (λ (v : PairVisit). v.count) c.on.ensures) c.units.ensures
    (λ n. c.in_ok-starts.ensures.nodes n ∙ ap (λ (l : List (ℕ × LabelName)). is_start c.built-built.result.now.tables l n) c.starts.ensures)
    c.in_ok-roots.ensures
