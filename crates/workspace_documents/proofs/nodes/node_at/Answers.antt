use Rattle.workspace_documents.proofs.NodeReads.{node_found}
use Rattle.workspace_documents.proofs.nodes.node_at.Goals as goal

pub returns : goal.returns
returns c = node_found c.args.nodes.now.entries c.args.id.now c.get.result c.args.absent c.unwrap_or.result c.unwrap_or.ensures c.requires c.get.ensures.value
