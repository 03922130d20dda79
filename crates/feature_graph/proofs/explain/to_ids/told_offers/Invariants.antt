use Rattle.std.proofs.Common.{map, take}
use Rattle.feature_graph.specs.Explained.{OffersAreTold}
use Rattle.feature_graph.specs.Told.{offer_name}
use Rattle.feature_graph.specs.Views.{graph_of}
use Rattle.feature_graph.proofs.explain.to_ids.told_offers.Given as goal

abbrev pub invariant-loop-edge : goal.invariant-loop-edge
invariant-loop-edge l = OffersAreTold (graph_of l.graph) (take l.edge-index l.offers) (map offer_name l.told.items)
