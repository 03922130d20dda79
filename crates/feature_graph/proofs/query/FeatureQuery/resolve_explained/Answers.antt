use Rattle.std.proofs.Common.{◌≡◌, length, sym, subst}
use Rattle.digraphs.specs.Bits.{has}
use Rattle.feature_core.specs.Nodes.{nodes}
use Rattle.feature_core.specs.Offers.{content_of}
use Rattle.walk_checks.specs.Exact.{IsExplainedRun}
use Rattle.feature_graph.specs.Values.{Graph}
use Rattle.feature_graph.specs.Visits.{query_content, shown}
use Rattle.feature_graph.proofs.Explanations.{explained_run}
use Rattle.feature_graph.proofs.query.FeatureQuery.resolve_explained.Goals as goal

pub explained-requires-clause-run : goal.explained-requires-clause-run
explained-requires-clause-run g c =
    let q = c.args.self in
    let walked = c.in_ok-walked.walked in
    let run = explained_run (query_content q) (has q.initials) (shown g.V.FeatureLinkVisitor.visit_gives q) c.args.visitor.now _ (has walked.0) walked.1.items walked.2.items c.in_ok-walked.ensures.walk in (
      q.initials,
      subst (λ (z : Graph). length q.initials ≡ length (nodes z.tables)) (sym c.graph-graph.ensures) c.in_ok-walked.ensures.initials,
      subst (λ (z : Graph). IsExplainedRun (content_of c.direction-direction.result z.built) (has q.initials) (has walked.0) walked.1.items walked.2.items) (sym c.graph-graph.ensures)
          (subst (λ d. IsExplainedRun (content_of d q.graph.built) (has q.initials) (has walked.0) walked.1.items walked.2.items) (sym c.direction-direction.ensures) run),
    )
