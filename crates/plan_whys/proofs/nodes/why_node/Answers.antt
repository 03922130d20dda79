use Rattle.std.proofs.Common.{map, subst, sym}
use Rattle.guppy_packages.specs.Tables.{Tables}
use Rattle.guppy_packages.specs.declared.direction.DependencyDirection.TheVariants.{Forward}
use Rattle.digraphs.specs.Bits.{has}
use Rattle.feature_core.specs.Built.{IsBuilt}
use Rattle.walk_engine.specs.Laws.{every}
use Rattle.plan_whys.specs.StepViews.{why_text}
use Rattle.plan_whys.proofs.Listed.{kept_inside, node_answered, tables_here, what_some}
use Rattle.plan_whys.proofs.nodes.why_node.Goals as goal

pub steps_of-requires : goal.steps_of-requires
steps_of-requires c =
    let here = tables_here c.args.on.now c.visited.result.now c.packages.result.now c.visited.ensures c.packages.ensures in
    let built : IsBuilt c.packages.result.now c.args.built.now = subst (λ (t : Tables). IsBuilt t c.args.built.now) (sym here) c.requires.built in
    kept_inside c.args.on.now.visit.tables c.args.built.now c.args.initials.now every c.args.steps.now c.in-Some.kept.items c.deref.result.now c.args.node
    c.requires.built (c.content_of_graph.ensures.ends c.args.built.now Forward built) c.requires.size (what_some _ _ c.in_ok-kept_steps.field-0 c.in-Some.kept c.in-Some.is c.in_ok-kept_steps.ensures) c.deref.ensures.value

pub returns-in_ok-whys-in-Some : goal.returns-in_ok-whys-in-Some
returns-in_ok-whys-in-Some c =
    node_answered c.args.on.now c.args.built.now (has c.args.initials.now) c.args.steps.now c.in-Some.kept.items c.deref.result.now c.args.node (map why_text c.in_ok-whys-in-Some.whys.items)
    c.requires.built c.requires.explanation c.requires.listed (what_some _ _ c.in_ok-kept_steps.field-0 c.in-Some.kept c.in-Some.is c.in_ok-kept_steps.ensures) c.deref.ensures.value c.in_ok-whys-in-Some.ensures
