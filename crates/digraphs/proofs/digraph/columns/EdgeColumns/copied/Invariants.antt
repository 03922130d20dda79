use Rattle.std.proofs.Common.{◌≡◌, take}
use Rattle.digraphs.proofs.digraph.columns.EdgeColumns.copied.Given as goal

abbrev pub invariant-loop-place : goal.invariant-loop-place
invariant-loop-place l = l.columns ≡ take l.place l.edges
