use Rattle.std.proofs.Common.{◌<◌, sym, subst}
use Rattle.digraphs.specs.Graph.{Graph}
use Rattle.digraphs.proofs.BeginLemmas.{IsOutRange, out_range}
use Rattle.digraphs.proofs.digraph.Digraph.out_edges.Goals as goal

pub returns : goal.returns
returns c =
    let g : Graph = record { nodes = c.self.inside.nodes; edges = c.self.inside.edges } in
    let node : c.args.node < g.nodes = subst (λ (h : Graph). c.args.node < h.nodes) (sym c.self.view_is) c.requires in
    let r : IsOutRange c.args.self.now c.args.node c.index.result.now c.index-2.result.now =
    subst (λ (h : Graph). IsOutRange h c.args.node c.index.result.now c.index-2.result.now) c.self.view_is
    (out_range g c.self.invariant.0 c.self.inside.begins.items c.self.invariant.1 c.args.node node c.index.result.now c.index-2.result.now c.index.ensures c.index-2.ensures)
    in
    record { numbers = r.numbers; ascends = r.ascends; within = r.within }
