use Rattle.guppy_vectors.proofs.ListedWays.{listed_content}
use Rattle.guppy_vectors.proofs.graphs.listed.ListedEdgeSource.edge_count.Goals as goal

pub returns-clause-nodes : goal.returns-clause-nodes
returns-clause-nodes c = listed_content c.args.self.now.nodes c.args.self.now.ways.items c.args.self.now.within
