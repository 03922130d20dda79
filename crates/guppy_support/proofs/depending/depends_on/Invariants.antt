use Rattle.std.proofs.Common.{◌≡◌, true, length}
use Rattle.std.specs.Prelude.{◌==◌}
use Rattle.digraphs.specs.Bits.{has}
use Rattle.guppy_support.specs.declared.reading.Reading.TheVariants.{Forward}
use Rattle.guppy_support.specs.Reaches.{FollowedStep}
use Rattle.guppy_support.specs.inner.Search.{IsSearch, left_over}
use Rattle.guppy_support.proofs.depending.depends_on.Given as goal

abbrev pub invariant-loop-waiting : goal.invariant-loop-waiting
invariant-loop-waiting l = record {
  size : length l.found ≡ l.digraph.nodes;
  start : has l.found l.a ≡ true;
  known : IsSearch (FollowedStep Forward l.digraph.edges (λ _. true)) (λ v. v == l.a) l.found l.waiting.items;
}

abbrev pub decreases-loop-waiting : goal.decreases-loop-waiting
decreases-loop-waiting l = left_over l.found l.waiting.items
