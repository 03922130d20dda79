use Rattle.std.proofs.Common.{subst}
use Rattle.std.specs.Prelude.{◌↔◌, IsTrue}
use Rattle.digraphs.specs.Bits.{has}
use Rattle.feature_core.specs.Ways.{Reading}
use Rattle.walk_engine.specs.Explanations.{IsExplanation, nodes_of}
use Rattle.walk_engine.specs.Laws.{every}
use Rattle.walk_engine.specs.Walks.{Least, is_in}
use Rattle.plan_whys.proofs.explanations.explanation_from.Goals as goal

pub returns-clause-explanation : goal.returns-clause-explanation
returns-clause-explanation c =
    subst (λ (r : Reading). IsExplanation r.holds (has c.args.initials.now) every c.in_ok-walk.steps.items) c.new-source.ensures
    (c.walk_is_exact.ensures.explained _ _ _ _ _ _ _ c.in_ok-walk.ensures.walk)

pub returns-clause-listed : goal.returns-clause-listed
returns-clause-listed c n =
    let walked = c.in_ok-walk.ensures.walk in
    subst (λ (r : Reading). IsTrue (is_in (nodes_of c.in_ok-walk.steps.items) n) ↔ Least r.holds (has c.args.initials.now) every n) c.new-source.ensures
    (subst (λ b. IsTrue b ↔ Least c.new-source.result.holds (has c.args.initials.now) every n) (walked.listed n)
    (c.agrees_by_answer.ensures.least every _ _ _ _ _ (λ run t u e h b along given. given) walked.walk n))
