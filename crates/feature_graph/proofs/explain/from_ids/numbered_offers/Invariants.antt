use Rattle.std.proofs.Common.{map, take}
use Rattle.guppy_packages.specs.declared.direction.DependencyDirection.TheVariants.{Forward}
use Rattle.feature_graph.specs.Explained.{AreRefused}
use Rattle.feature_graph.specs.Told.{offer_name}
use Rattle.feature_graph.specs.Views.{graph_of}
use Rattle.feature_graph.proofs.explain.from_ids.numbered_offers.Given as goal

abbrev pub invariant-loop-from : goal.invariant-loop-from
invariant-loop-from l = AreRefused (graph_of l.graph) Forward (take l.from-index (map offer_name l.fn.told)) l.offers.items
