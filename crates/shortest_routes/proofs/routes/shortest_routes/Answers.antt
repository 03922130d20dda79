use Rattle.std.proofs.Common.{◌≡◌, ◌∙◌, ◌<◌, ℕ, List, Option, Some, None, [], get_or, length, map, slice_get, subst, sym}
use Rattle.std.proofs.lemmas.Result.{IfOk-weaker}
use Rattle.shortest_routes.specs.Routes.{IsStartOf, route_text}
use Rattle.shortest_routes.specs.inner.Nearest.{IsNearest}
use Rattle.shortest_routes.specs.inner.Steps.{AreSteps}
use Rattle.shortest_routes.specs.declared.step.Step.{Step}
use Rattle.shortest_routes.proofs.RouteLemmas.{routes_made, starts_have_steps}
use Rattle.shortest_routes.proofs.routes.shortest_routes.Goals as goal
use Rattle.shortest_routes.proofs.routes.shortest_routes.Goals.{After-deref-3}

are_steps : (c : After-deref-3) → AreSteps c.args.links.now c.args.targets.now c.deref-2.result.now
are_steps c = subst (AreSteps c.args.links.now c.args.targets.now) (sym c.deref-2.ensures.value) c.in_ok-table.ensures

have_room : (c : After-deref-3) (node owner : ℕ) → slice_get c.args.owners.now node ≡ Some owner → owner < length c.deref-3.result.now
have_room c = subst (λ (z : List (Option ℕ)). (node owner : ℕ) → slice_get c.args.owners.now node ≡ Some owner → owner < length z) (sym c.deref-3.ensures.value) c.in_ok-nearest.ensures.size

are_nearest : (c : After-deref-3) (o : ℕ) → IsNearest c.deref-2.result.now (IsStartOf c.args.owners.now c.args.starts.now o) (get_or c.deref-3.result.now o None)
are_nearest c o =
    subst (λ (z : List (Option ℕ)). IsNearest c.deref-2.result.now (IsStartOf c.args.owners.now c.args.starts.now o) (get_or z o None)) (sym c.deref-3.ensures.value)
    (subst (λ (z : List (Option Step)). IsNearest z (IsStartOf c.args.owners.now c.args.starts.now o) (get_or c.in_ok-nearest.nearest.items o None)) (c.deref.ensures.value ∙ sym c.deref-2.ensures.value) (c.in_ok-nearest.ensures.nearest o))

pub routes_by-requires-clause-steps : goal.routes_by-requires-clause-steps
routes_by-requires-clause-steps c = (c.args.links.now, (c.args.targets.now, are_steps c))

pub routes_by-requires-clause-starts : goal.routes_by-requires-clause-starts
routes_by-requires-clause-starts c =
    starts_have_steps c.args.links.now c.args.targets.now c.args.owners.now c.args.starts.now c.deref-2.result.now c.deref-3.result.now [] (are_steps c) (have_room c) (are_nearest c)

pub returns : goal.returns
returns c =
    IfOk-weaker c.routes_by.result _ _ (λ routes w.
    routes_made c.args.links.now c.args.targets.now c.args.owners.now c.args.starts.now c.deref-2.result.now c.deref-3.result.now (map route_text routes.items)
    (are_steps (goal.at.returns c).After-deref-3) (have_room (goal.at.returns c).After-deref-3) (are_nearest (goal.at.returns c).After-deref-3) w) c.routes_by.ensures
