use Rattle.std.proofs.Common.{◌∙◌, ap, map, subst, sym}
use Rattle.cargo_plans.specs.plan_steps.PlanViews.{plan_text}
use Rattle.cargo_plans.specs.plan_units.Units.{UnitText}
use Rattle.feats_tree.specs.packages.Trees.{units_of}
use Rattle.plan_whys.specs.links.UnitLinks.{AreUnitLinks}
use Rattle.feats_routes.proofs.PlanRoutes.{routes_of}
use Rattle.feats_routes.proofs.routes.routes_to.Goals as goal

pub returns : goal.returns
returns c =
    let plan = plan_text c.args.plan.now in
    routes_of c.shortest_routes.result plan c.args.«package» c.deref.result.now c.deref-2.result.now c.deref-3.result.now c.deref-4.result.now
    (subst (AreUnitLinks plan) (sym c.deref.ensures.value) c.in_ok-links.ensures)
    (c.deref-2.ensures.value ∙ c.in_ok-targets.ensures ∙ ap (units_of c.args.«package») c.units.ensures)
    (c.deref-3.ensures.value ∙ c.in_ok-owners.ensures ∙ ap (map (λ (u : UnitText). u.number)) c.units-2.ensures)
    (c.deref-4.ensures.value ∙ c.in_ok-roots.ensures)
    c.shortest_routes.ensures
