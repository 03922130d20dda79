use Rattle.std.proofs.Common.{sym, subst}
use Rattle.digraphs.specs.Bits.{has}
use Rattle.guppy_support.specs.declared.reading.Reading.{Reading}
use Rattle.guppy_support.specs.Reaches.{FollowedStep, ReachAlong}
use Rattle.feature_core.specs.inner.ChosenEdges.{is_chosen_at}
use Rattle.feature_core.proofs.ChosenEdgeLemmas.{reach_chosen_pairs}
use Rattle.feature_core.proofs.chosen_reach.reach_chosen.Goals as goal

pub returns-clause-members : goal.returns-clause-members
returns-clause-members c = λ n.
    let g = c.args.digraph.now in
    let initials = has c.args.initials.now in
    let pairs = reach_chosen_pairs c.args.which g.edges c.args.edges.now c.args.direction initials n c.requires.same in
    let by = λ (r : Reading). ReachAlong (FollowedStep r g.edges (is_chosen_at c.args.which c.args.edges.now)) initials n in
    let both = c.in_ok-set.ensures.members n in
    (λ member. pairs.0 (subst by c.reading.ensures (both.0 member)), λ reached. both.1 (subst by (sym c.reading.ensures) (pairs.1 reached)))
