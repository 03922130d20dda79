use Rattle.std.proofs.Common.{◌≡◌, map, drop}
use Rattle.std.specs.Prelude.{slice_get, ◌==◌}
use Rattle.walk_engine.specs.Walks.{numbers_where}
use Rattle.guppy_vectors.specs.ListedWays.{way_of}
use Rattle.guppy_vectors.proofs.graphs.listed.ListedEdgeSource.take.Given as goal

abbrev pub invariant-loop-edge : goal.invariant-loop-edge
invariant-loop-edge l =
    slice_get (numbers_where (λ w. w.start == l.start) l.edge (map way_of (drop l.edge l.way-items))) l.left ≡ slice_get (numbers_where (λ w. w.start == l.start) 0 (map way_of l.way-items)) l.place
