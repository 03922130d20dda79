use Rattle.std.proofs.Common.{◌∙◌}
use Rattle.guppy_support.proofs.CycleLemmas.{loop_is}
use Rattle.guppy_support.proofs.cycles.has_edge_to_itself.Goals as goal

pub returns : goal.returns
returns c = c.is_some.ensures ∙ loop_is c.args.digraph.now.edges c.args.node c.edge_between.result c.edge_between.ensures.some c.edge_between.ensures.none
