use Rattle.digraphs.specs.Bits.{has}
use Rattle.feature_graph.specs.Visits.{query_content, shown}
use Rattle.feature_graph.proofs.Explanations.{explained_run, explained_by_answer}
use Rattle.feature_graph.proofs.laws.resolved_is_exact.Goals as goal

pub returns-clause-exact : goal.returns-clause-exact
returns-clause-exact g c q s t M steps refused walk =
    c.run_is_exact.ensures.exact (query_content q) (has q.initials) M steps refused (explained_run (query_content q) (has q.initials) (shown g.V.FeatureLinkVisitor.visit_gives q) s t M steps refused walk)

pub returns-clause-by_answer : goal.returns-clause-by_answer
returns-clause-by_answer g c q A s t M steps refused answers walk =
    explained_by_answer (query_content q) (has q.initials) (shown g.V.FeatureLinkVisitor.visit_gives q) A s t M steps refused answers walk
