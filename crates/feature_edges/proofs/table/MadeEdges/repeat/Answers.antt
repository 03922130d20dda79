use Rattle.std.proofs.Common.{◌≡◌, ◌∙◌, ◌++◌, ◌∷◌, [], ap, sym, refl}
use Rattle.feature_links.specs.Values.{edge_facts}
use Rattle.feature_edges.specs.inner.Made.{edge_end}
use Rattle.feature_edges.proofs.Places.{got_same}
use Rattle.feature_edges.proofs.table.MadeEdges.repeat.Goals as goal

pub returns : goal.returns
returns c f at =
    let same : edge_facts c.get.result.now ≡ f = got_same _ f (sym c.get.ensures ∙ at) in
    record {
      weak = refl;
      last = refl;
      edges = c.in_ok-repeat.ensures f at;
      ends = c.in_ok-push.ensures.pushed ∙ ap (λ z. c.args.self.now.ends ++ z ∷ []) (c.edge_end-end.ensures ∙ ap (edge_end c.args.key) same);
    }
