use Rattle.digraphs.proofs.FaultLemmas.{targets_within}
use Rattle.digraphs.proofs.digraph.inward_rows.Goals as goal

pub pack_rows-requires : goal.pack_rows-requires
pack_rows-requires c = targets_within (record { nodes = c.args.nodes; edges = c.args.edges.now }) c.requires
