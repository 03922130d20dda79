use Rattle.std.proofs.Common.{◌∙◌, sym}
use Rattle.std.proofs.lemmas.List.{length-map}
use Rattle.feature_core.specs.Built.{ends_of}
use Rattle.feature_graph.proofs.graph.FeatureGraph.link_count.Goals as goal

pub returns : goal.returns
returns c =
    let graph = c.args.self.now in
    let edges = graph.built.now.edges in
    record { pairs = ends_of edges; is_list = graph.is_built.pairs; counted = c.edge_count.ensures ∙ sym (length-map edges (λ e. (e.0, e.1))) }
