use Rattle.feature_edges.proofs.GateLemmas.{gate_of_list, gate_within}
use Rattle.feature_edges.proofs.gate_nodes.gate_at.Goals as goal

pub returns : goal.returns
returns c = gate_of_list c.args.numbers.graph.now c.args.ix c.args.gates.now c.requires.gates c.requires.link

pub bounds-gates-ix : goal.bounds-gates-ix
bounds-gates-ix c = gate_within c.args.numbers.graph.now c.args.ix c.args.gates.now c.requires.gates c.requires.link
