use Rattle.guppy_packages.proofs.LinkEdges.{digraph_sound, links_and_edges}
use Rattle.guppy_packages.proofs.laws.links_are_edges.Goals as goal

pub returns : goal.returns
returns c = λ t tables. (digraph_sound t tables, links_and_edges t tables)
