-- Links between features as values.
use Rattle.feature_graph.specs.LinkValues.{Link}
use Rattle.feature_graph.specs.Views.{graph_of}
use Rattle.feature_graph.specs.declared.link.ConditionalLink.{ConditionalLink}

abbrev pub link_of : ConditionalLink → Link
link_of l = record { graph = graph_of l.graph; edge = l.edge; half = l.half }
