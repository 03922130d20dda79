use Rattle.std.proofs.Common.{map, take}
use Rattle.feature_graph.specs.Explained.{AreTold}
use Rattle.feature_graph.specs.Told.{step_name}
use Rattle.feature_graph.specs.Views.{graph_of}
use Rattle.feature_graph.proofs.explain.to_ids.told_steps.Given as goal

abbrev pub invariant-loop-step : goal.invariant-loop-step
invariant-loop-step l = AreTold (graph_of l.graph) (take l.step-index l.steps) (map step_name l.told.items)
