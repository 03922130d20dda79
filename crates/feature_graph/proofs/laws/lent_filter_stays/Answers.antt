use Rattle.feature_graph.proofs.LentLemmas.{lent_ran}
use Rattle.feature_graph.proofs.laws.lent_filter_stays.Goals as goal

pub returns : goal.returns
returns g c h s t run along = lent_ran g.F.FeatureFilter.accept_gives h s t run along
