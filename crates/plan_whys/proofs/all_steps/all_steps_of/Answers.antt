use Rattle.std.proofs.Common.{map, refl, subst, sym}
use Rattle.guppy_packages.specs.Tables.{Tables}
use Rattle.guppy_packages.specs.declared.direction.DependencyDirection.TheVariants.{Forward}
use Rattle.digraphs.specs.Bits.{has}
use Rattle.feature_core.specs.Built.{IsBuilt}
use Rattle.feature_core.specs.Offers.{content_of}
use Rattle.walk_engine.specs.Laws.{every}
use Rattle.plan_whys.specs.StepViews.{why_text}
use Rattle.plan_whys.proofs.Listed.{steps_inside, tables_here}
use Rattle.plan_whys.proofs.StepLaws.{steps_backed}
use Rattle.plan_whys.proofs.all_steps.all_steps_of.Goals as goal

pub steps_of-requires : goal.steps_of-requires
steps_of-requires c =
    let here = tables_here c.args.on.now c.visited.result.now c.packages.result.now c.visited.ensures c.packages.ensures in
    let built : IsBuilt c.packages.result.now c.args.built.now = subst (λ (t : Tables). IsBuilt t c.args.built.now) (sym here) c.requires.built in
    steps_inside c.args.on.now.visit.tables c.args.built.now c.args.initials.now every c.args.steps.now c.args.steps.now
    c.requires.built (c.content_of_graph.ensures.ends c.args.built.now Forward built) c.requires.size c.requires.explanation refl

pub returns-clause-steps : goal.returns-clause-steps
returns-clause-steps c = record {
  built = c.args.built.now;
  is_built = c.requires.built;
  steps = c.args.steps.now;
  explanation = c.requires.explanation;
  listed = c.requires.listed;
  are_steps = c.in_ok-whys.ensures;
}

pub returns-clause-backed : goal.returns-clause-backed
returns-clause-backed c =
    steps_backed c.args.on.now (content_of Forward c.args.built.now) (has c.args.initials.now) c.args.steps.now (map why_text c.in_ok-whys.whys.items) c.requires.explanation c.in_ok-whys.ensures
