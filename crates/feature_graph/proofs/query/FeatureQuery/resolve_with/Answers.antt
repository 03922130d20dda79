use Rattle.std.proofs.Common.{refl, sym, subst}
use Rattle.walk_engine.specs.Walks.{MayAsk}
use Rattle.feature_graph.specs.Visits.{query_content, showable, shown}
use Rattle.feature_graph.proofs.query.FeatureQuery.resolve_with.Goals as goal

pub walk_shown-requires : goal.walk_shown-requires
walk_shown-requires g c κs = (
  (refl, (refl, tt)),
  subst (λ q. MayAsk (showable g.V.FeatureLinkVisitor.can_visit q) (shown g.V.FeatureLinkVisitor.visit_gives q) (query_content q) c.args.visitor.now) (sym c.new-cx.ensures) c.requires,
)
