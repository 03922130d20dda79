use Rattle.std.proofs.Common.{ℕ, ◌⊎◌}
use Rattle.std.specs.Prelude.{IsTrue}
use Rattle.digraphs.specs.Bits.{has}
use Rattle.walk_engine.specs.Walks.{is_in}
use Rattle.walk_checks.proofs.exact.are_listed.Given as goal

-- Each member is listed or still to be read, and each one to be read is a member.
abbrev pub invariant-loop-node : goal.invariant-loop-node
invariant-loop-node l = record {
  left : (n : ℕ) → IsTrue (has l.initials n) → IsTrue (has l.listed n) ⊎ IsTrue (is_in l.node-iterator n);
  members : (n : ℕ) → IsTrue (is_in l.node-iterator n) → IsTrue (has l.initials n);
}
