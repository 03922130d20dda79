use Rattle.std.proofs.Common.{refl, subst, sym}
use Rattle.guppy_packages.specs.Tables.{Tables}
use Rattle.guppy_packages.specs.declared.direction.DependencyDirection.TheVariants.{Forward}
use Rattle.digraphs.specs.Bits.{has}
use Rattle.feature_core.specs.Built.{IsBuilt}
use Rattle.feature_core.specs.Offers.{content_of}
use Rattle.walk_engine.specs.Laws.{every}
use Rattle.plan_whys.proofs.LastLemmas.{lasts_answered}
use Rattle.plan_whys.proofs.Listed.{steps_inside, tables_here}
use Rattle.plan_whys.proofs.last_steps.last_steps_of.Goals as goal

pub steps_at_spots-requires-clause-inside : goal.steps_at_spots-requires-clause-inside
steps_at_spots-requires-clause-inside c =
    let here = tables_here c.args.on.now c.visited.result.now c.packages.result.now c.visited.ensures c.packages.ensures in
    let built : IsBuilt c.packages.result.now c.args.built.now = subst (λ (t : Tables). IsBuilt t c.args.built.now) (sym here) c.requires.built in
    steps_inside c.args.on.now.visit.tables c.args.built.now c.args.initials.now every c.args.steps.now c.args.steps.now
    c.requires.built (c.content_of_graph.ensures.ends c.args.built.now Forward built) c.requires.size c.requires.explanation refl

pub returns : goal.returns
returns c =
    let here = tables_here c.args.on.now c.visited.result.now c.packages.result.now c.visited.ensures c.packages.ensures in
    let built : IsBuilt c.packages.result.now c.args.built.now = subst (λ (t : Tables). IsBuilt t c.args.built.now) (sym here) c.requires.built in
    lasts_answered c.args.on.now c.args.built.now c.args.initials.now c.args.steps.now c.requires.built (c.content_of_graph.ensures.ends c.args.built.now Forward built) c.requires.size
    c.requires.explanation c.requires.listed (λ k step at. c.each_step_ends_a_why.ensures (content_of Forward c.args.built.now) (has c.args.initials.now) every c.args.steps.now c.requires.explanation k step at)
    c.args.spots.now c.in_ok-lasts.lasts.items c.in_ok-lasts.ensures
