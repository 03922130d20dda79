use Rattle.std.proofs.Common.{ℕ, ◌<◌, ◌≤◌, length}
use Rattle.digraphs.specs.Graph.{sources, source_of}
use Rattle.digraphs.specs.PackedRows.{AreBegun}
use Rattle.digraphs.proofs.digraph.begins.source_begins.Given as goal

abbrev pub invariant-loop-place : goal.invariant-loop-place
invariant-loop-place l =
    record {
      begun : AreBegun (sources l.edges) l.begins.items;
      before : (i : ℕ) → i < l.place → source_of l.edges i < length l.begins.items;
      few : length l.begins.items ≤ l.nodes;
    }
