use Rattle.std.proofs.Common.{◌∙◌, length, subst, sym}
use Rattle.std.specs.Prelude.{slice_index_or}
use Rattle.guppy_packages.specs.declared.direction.DependencyDirection.TheVariants.{Forward}
use Rattle.feature_core.specs.Nodes.{node_packages}
use Rattle.feature_core.specs.Offers.{content_of}
use Rattle.feature_core.specs.Ways.{Reading}
use Rattle.walk_engine.specs.declared.walks.Step.{Step}
use Rattle.walk_engine.specs.declared.walks.StepReason.TheVariants.{Initial}
use Rattle.plan_whys.specs.StepViews.{why_text}
use Rattle.plan_whys.specs.Steps.{IsStepOf}
use Rattle.plan_whys.specs.inner.Nodes.{IsInside}
use Rattle.plan_whys.proofs.LastLemmas.{no_step, place_within, step_shown}
use Rattle.plan_whys.proofs.last_steps.step_at.Goals as goal

pub bounds-steps-place : goal.bounds-steps-place
bounds-steps-place c =
    place_within (content_of Forward c.args.built.now).nodes c.args.steps.now c.args.places.now c.args.node c.in-Some.place c.requires.places (sym c.place.ensures ∙ c.in-Some.is)

pub step_of-requires : goal.step_of-requires
step_of-requires c =
    let d : Step = record { node = 0; reason = Initial } in
    let within = place_within (content_of Forward c.args.built.now).nodes c.args.steps.now c.args.places.now c.args.node c.in-Some.place c.requires.places (sym c.place.ensures ∙ c.in-Some.is) in
    subst (λ (r : Reading). IsInside (length (node_packages c.args.on.now.visit.tables)) r.holds (slice_index_or c.args.steps.now c.in-Some.place d)) (sym c.new-table.ensures)
    (c.requires.inside c.in-Some.place d within)

pub returns-in-None : goal.returns-in-None
returns-in-None c = no_step c.args.on.now (content_of Forward c.args.built.now) c.args.steps.now c.args.places.now c.args.node c.requires.places (sym c.place.ensures ∙ c.in-None.is)

pub returns-in-Some : goal.returns-in-Some
returns-in-Some c =
    let d : Step = record { node = 0; reason = Initial } in
    let shown = subst (λ (r : Reading). IsStepOf c.args.on.now r.holds (slice_index_or c.args.steps.now c.in-Some.place d) (why_text c.step_of.result)) c.new-table.ensures c.step_of.ensures in
    step_shown c.args.on.now (content_of Forward c.args.built.now) c.args.steps.now c.args.places.now c.args.node c.in-Some.place d (why_text c.step_of.result) c.requires.places
    (sym c.place.ensures ∙ c.in-Some.is) shown
