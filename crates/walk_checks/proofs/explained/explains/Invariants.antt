use Rattle.std.proofs.Common.{◌≡◌, ℕ, length, take}
use Rattle.digraphs.specs.Bits.{has}
use Rattle.walk_engine.specs.Walks.{is_in}
use Rattle.walk_engine.specs.Explanations.{IsExplanation, nodes_of}
use Rattle.walk_engine.specs.Laws.{every}
use Rattle.walk_checks.proofs.explained.explains.Given as goal

abbrev pub invariant-loop-step : goal.invariant-loop-step
invariant-loop-step g l = record {
  size : length l.listed ≡ length l.fn.listed;
  explained : IsExplanation (g.T.EdgeTable.content l.table) (has l.initials) every (take l.step-index l.steps);
  listed : (n : ℕ) → has l.listed n ≡ is_in (nodes_of (take l.step-index l.steps)) n;
}
