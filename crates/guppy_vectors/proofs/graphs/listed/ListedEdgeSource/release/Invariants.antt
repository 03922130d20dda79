use Rattle.std.proofs.Common.{◌≡◌, ◌&&◌, map, drop}
use Rattle.std.specs.Prelude.{slice_get, ◌==◌}
use Rattle.walk_engine.specs.Walks.{numbers_where, is_gated}
use Rattle.guppy_vectors.specs.ListedWays.{way_of}
use Rattle.guppy_vectors.proofs.graphs.listed.ListedEdgeSource.release.Given as goal

abbrev pub invariant-loop-edge : goal.invariant-loop-edge
invariant-loop-edge l =
    slice_get (numbers_where (λ w. is_gated w.ask && (w.gate == l.gate)) l.edge (map way_of (drop l.edge l.way-items))) l.left ≡ slice_get (numbers_where (λ w. is_gated w.ask && (w.gate == l.gate)) 0 (map way_of l.way-items)) l.place
