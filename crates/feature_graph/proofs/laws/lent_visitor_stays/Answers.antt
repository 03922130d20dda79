use Rattle.feature_graph.proofs.LentLemmas.{lent_along}
use Rattle.feature_graph.proofs.laws.lent_visitor_stays.Goals as goal

pub returns : goal.returns
returns g c q s t run along = lent_along g.V.FeatureLinkVisitor.visit_gives q s t run along
