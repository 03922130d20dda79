use Rattle.std.proofs.Common.{◌≡◌, ◌+◌}
use Rattle.digraph_orders.specs.inner.Queues.{IsAbove}
use Rattle.digraphs.proofs.BitLemmas.{ticks}
use Rattle.digraph_orders.proofs.order.queue.Queue.pop.Given as goal

abbrev pub invariant-loop-block : goal.invariant-loop-block
invariant-loop-block l =
    record {
      numbers : l.self-inside.numbers ≡ l.initial.self-inside.numbers;
      words : IsAbove l.self-inside.numbers l.self-inside.words;
      blocks : IsAbove l.self-inside.words l.self-inside.blocks;
    }

abbrev pub decreases-loop-block : goal.decreases-loop-block
decreases-loop-block l = ticks l.self-inside.words + ticks l.self-inside.blocks
