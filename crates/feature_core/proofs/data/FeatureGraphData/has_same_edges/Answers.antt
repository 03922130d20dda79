use Rattle.std.proofs.Common.{ap}
use Rattle.feature_core.proofs.SameData.{IsShown, pairs_same, pairs_apart}
use Rattle.feature_core.proofs.data.FeatureGraphData.has_same_edges.Goals as goal

pub returns-then-same_pairs : goal.returns-then-same_pairs
returns-then-same_pairs c =
    let d = c.self.inside in
    let e = c.other.inside in
    let x : IsShown c.args.self.now.edges d.digraph.edges d.edges = record { long = c.self.invariant.1; shown = ap (λ b. b.edges) c.self.view_is } in
    let y : IsShown c.args.other.now.edges e.digraph.edges e.edges = record { long = c.other.invariant.1; shown = ap (λ b. b.edges) c.other.view_is } in
    pairs_same c.args.self.now.edges c.args.other.now.edges d.digraph.edges e.digraph.edges d.edges e.edges x y c.same_pairs.result c.same_edges.result c.same_pairs.ensures c.if-same_pairs.true c.same_edges.ensures

pub returns-else-same_pairs : goal.returns-else-same_pairs
returns-else-same_pairs c =
    let d = c.self.inside in
    let e = c.other.inside in
    let x : IsShown c.args.self.now.edges d.digraph.edges d.edges = record { long = c.self.invariant.1; shown = ap (λ b. b.edges) c.self.view_is } in
    let y : IsShown c.args.other.now.edges e.digraph.edges e.edges = record { long = c.other.invariant.1; shown = ap (λ b. b.edges) c.other.view_is } in
    pairs_apart c.args.self.now.edges c.args.other.now.edges d.digraph.edges e.digraph.edges d.edges e.edges x y c.same_pairs.result c.same_pairs.ensures c.if-same_pairs.false
