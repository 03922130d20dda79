use Rattle.digraphs.specs.Graph.{for_memory}
use Rattle.digraphs.proofs.digraph.Digraph.new.Goals as goal

pub returns-in-Err-clause-refused : goal.returns-in-Err-clause-refused
returns-in-Err-clause-refused c = for_memory c.in_default.ensures.none
