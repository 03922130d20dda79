use Rattle.std.proofs.Common.{◌≡◌, ◌-◌, ◌<◌, ℕ, Bool, List, length}
use Rattle.std.specs.Prelude.{IsTrue}
use Rattle.std.specs.BTreeSet.{contains}
use Rattle.std.specs.Ordering.{nat_cmp}
use Rattle.digraphs.specs.Bits.{has}
use Rattle.walk_engine.specs.declared.walks.Half.{Half}
use Rattle.walk_engine.specs.Explanations.{IsExplanation}
use Rattle.walk_checks.specs.inner.Waiting.{IsReading}
use Rattle.walk_checks.proofs.resting.needed_steps.Given as goal

abbrev pub invariant-loop-round : goal.invariant-loop-round
invariant-loop-round g l = record {
  inside : (p : ℕ) → IsTrue (contains nat_cmp l.waiting p) → p < length l.steps;
  reading : (initials : List Bool) (A : ℕ → Half → Bool) → length initials ≡ (g.T.EdgeTable.content l.table).nodes → IsExplanation (g.T.EdgeTable.content l.table) (has initials) A l.steps → IsReading (g.T.EdgeTable.content l.table) l.steps l.node (length l.steps - l._round) (contains nat_cmp l.waiting) l.kept.items;
}
