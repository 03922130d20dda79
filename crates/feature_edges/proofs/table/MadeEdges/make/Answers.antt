use Rattle.std.proofs.Common.{◌∙◌, ◌++◌, ◌∷◌, [], ap, refl}
use Rattle.feature_links.specs.Values.{edge_facts}
use Rattle.feature_edges.proofs.table.MadeEdges.make.Goals as goal

pub returns : goal.returns
returns c = record {
  says = edge_facts c.in_ok-edge.edge;
  appended = record {
    weak = refl;
    last = refl;
    edges = c.in_ok-push-2.ensures;
    ends = c.in_ok-push.ensures.pushed ∙ ap (λ z. c.args.self.now.ends ++ z ∷ []) c.edge_end.ensures;
  };
  value = c.in_ok-edge.ensures;
}
