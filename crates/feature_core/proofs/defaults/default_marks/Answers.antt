use Rattle.std.proofs.Common.{◌∙◌, List, Bool}
use Rattle.feature_core.specs.Built.{built_edges}
use Rattle.feature_core.proofs.DefaultLemmas.{walked}
use Rattle.feature_core.proofs.defaults.default_marks.Goals as goal

pub returns : goal.returns
returns c =
    let t = c.args.numbers.graph.now in
    let table = c.args.table.now in
    let edges = built_edges table.digraph.edges table.edges in
    let initials : List Bool = c.in_ok-initials.initials in
    let marks : List Bool = c.in_ok-marks.marks in
    record {
      long = c.in_ok-marks.ensures.size ∙ c.requires.nodes;
      exact = walked t edges table.weak.entries initials marks c.requires.edges c.in_ok-initials.ensures.members c.in_ok-marks.ensures.members;
    }
