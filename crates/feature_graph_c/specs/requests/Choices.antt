-- Answers to offers as plain values.
use Rattle.feature_graph_c.specs.declared.requests.choice.Choice.{Choice as HeldChoice}
use Rattle.feature_graph_c.specs.declared.requests.choice.Choice.TheVariants as held
use Rattle.feature_graph_c.specs.requests.Requests.{Choice, refuse, accept, by_edge}

abbrev pub choice_of : HeldChoice → Choice
choice_of held.Refuse = refuse
choice_of held.Accept = accept
choice_of (held.ByEdge table) = by_edge table.now
