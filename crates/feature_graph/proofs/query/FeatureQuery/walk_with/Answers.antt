use Rattle.std.proofs.Common.{◌≡◌, rules, refl, sym, subst}
use Rattle.digraphs.specs.Bits.{has}
use Rattle.walk_engine.specs.Explanations.{IsExplainedWalk}
use Rattle.walk_engine.specs.Walks.{LegalRun, MayAsk}
use Rattle.feature_graph.specs.Visits.{query_content, showable, shown}
use Rattle.feature_graph.proofs.Visits.{on_err, run_moved, walk_moved}
use Rattle.feature_graph.proofs.query.FeatureQuery.walk_with.Goals as goal

pub walk_told-requires : goal.walk_told-requires
walk_told-requires g c κs = (
  (refl, (refl, tt)),
  subst (λ q. MayAsk (showable g.V.FeatureLinkVisitor.can_visit q) (shown g.V.FeatureLinkVisitor.visit_gives q) (query_content q) c.args.visitor.now) (sym c.new-cx.ensures) c.requires,
)

pub returns-in_err-walked-clause-run : goal.returns-in_err-walked-clause-run
returns-in_err-walked-clause-run g c =
    let is : c.walk_told.new.adapter.visitor.now ≡ c.visitor-1.given.0 = search rules in
    let run = run_moved g.V.FeatureLinkVisitor.visit_gives c.new-cx.result c.args.self c.args.visitor.now c.walk_told.new.adapter.visitor.now c.new-cx.ensures c.in_err-walked.ensures.run in
    on_err c.from_residual.result (subst (LegalRun (query_content c.args.self) (has c.args.self.initials) (shown g.V.FeatureLinkVisitor.visit_gives c.args.self) c.args.visitor.now) is run)

pub returns-clause-walk : goal.returns-clause-walk
returns-clause-walk g c =
    let walked = c.in_ok-walked.walked in
    let is : c.walk_told.new.adapter.visitor.now ≡ c.visitor-1.given.0 = search rules in
    let walk = walk_moved g.V.FeatureLinkVisitor.visit_gives c.new-cx.result c.args.self c.args.visitor.now c.walk_told.new.adapter.visitor.now (has walked.0) walked.1.items walked.2.items c.new-cx.ensures c.in_ok-walked.ensures.walk in
    subst (λ t. IsExplainedWalk (query_content c.args.self) (has c.args.self.initials) (shown g.V.FeatureLinkVisitor.visit_gives c.args.self) c.args.visitor.now t (has walked.0) walked.1.items walked.2.items) is walk
