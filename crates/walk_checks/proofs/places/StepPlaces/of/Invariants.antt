use Rattle.std.proofs.Common.{◌≡◌, length, take}
use Rattle.walk_engine.specs.Explanations.{nodes_of}
use Rattle.walk_checks.proofs.PlaceLemmas.{Placed, listed_at}
use Rattle.walk_checks.proofs.places.StepPlaces.of.Given as goal

abbrev pub invariant-loop-place : goal.invariant-loop-place
invariant-loop-place l = record {
  size : length l.places.items ≡ l.node_count;
  placed : Placed l.node_count (take l.place (nodes_of l.steps)) (nodes_of l.steps) (listed_at l.places.items);
}
