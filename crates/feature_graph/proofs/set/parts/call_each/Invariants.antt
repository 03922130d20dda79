use Rattle.std.proofs.Common.{◌<◌, length, All}
use Rattle.feature_core.specs.Nodes.{nodes}
use Rattle.feature_graph.specs.Parts.{MayCallEach}
use Rattle.feature_graph.specs.Views.{tables_of_graph}
use Rattle.feature_graph.specs.inner.Sorting.{HasCalled}
use Rattle.feature_graph.proofs.set.parts.call_each.Given as goal

abbrev pub invariant-loop-node : goal.invariant-loop-node
invariant-loop-node g l = record {
  callable : MayCallEach (goal.F-pre g) (goal.F-step g) (tables_of_graph l.graph) l.numbers l.f;
  within : All (λ n. n < length (nodes (tables_of_graph l.graph))) l.numbers;
  called : HasCalled (goal.F-step g) g.A.Answer.first g.A.Answer.second (tables_of_graph l.graph) l.fn.numbers l.numbers l.fn.f l.f l.one l.other;
}

abbrev pub decreases-loop-node : goal.decreases-loop-node
decreases-loop-node g l = length l.numbers
