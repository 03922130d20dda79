use Rattle.std.proofs.Common.{◌≡◌, length}
use Rattle.walk_engine.specs.inner.WalkProgress.{IsListed, findings}
use Rattle.walk_engine.proofs.WalkEnds.{BegunBut}
use Rattle.walk_engine.proofs.walks.progress.begin.Given as goal

abbrev pub invariant-loop-node : goal.invariant-loop-node
invariant-loop-node l =
    record {
      members : length l.found.members ≡ length l.initials;
      listed : IsListed (findings l.found);
      explains : l.found.explains ≡ l.fn.found.explains;
      begun : BegunBut l.initials l.node-iterator (findings l.found);
    }
