use Rattle.std.proofs.Common.{◌≡◌, List, map, take}
use Rattle.walk_engine.specs.declared.walks.Step.{Step}
use Rattle.feature_graph.specs.Told.{step_name}
use Rattle.feature_graph.specs.Views.{graph_of}
use Rattle.feature_graph.specs.inner.Numbered.{AreNumbered}
use Rattle.feature_graph.proofs.explain.from_ids.numbered_steps.Given as goal

-- the steps read so far are numbered, in only one way
abbrev pub invariant-loop-id : goal.invariant-loop-id
invariant-loop-id l = record {
  numbered : AreNumbered (graph_of l.graph) (take l.id-index (map step_name l.fn.told)) l.steps.items;
  only : (numbers : List Step) → AreNumbered (graph_of l.graph) (take l.id-index (map step_name l.fn.told)) numbers → numbers ≡ l.steps.items;
}
