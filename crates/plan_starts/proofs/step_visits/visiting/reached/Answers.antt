use Rattle.std.proofs.Common.{map}
use Rattle.digraphs.specs.Bits.{has}
use Rattle.guppy_packages.specs.declared.direction.DependencyDirection.TheVariants.{Forward}
use Rattle.walk_engine.specs.Laws.{every}
use Rattle.plan_starts.specs.step_visits.Visits.{place_view}
use Rattle.plan_starts.proofs.Reached.{reached_by_any}
use Rattle.plan_starts.proofs.step_visits.visiting.reached.Goals as goal

pub returns-in-Ok-clause-members : goal.returns-in-Ok-clause-members
returns-in-Ok-clause-members c =
    let built = c.args.built.now in
    reached_by_any c.args.packages.now (map place_view c.args.starts.now) built (has c.in_ok-initials.initials) (has c.in-Ok.walk.members) c.requires
    (λ b is. c.one_content.ensures built b Forward c.requires is)
    c.in_ok-initials.ensures.nodes
    (λ n. c.agrees_by_answer.ensures.least every _ _ _ _ _ (λ run t u e h b along given. given) c.in-Ok.ensures.walk n)
