use Rattle.std.proofs.Common.{◌≡◌, ◌<◌, ℕ, take}
use Rattle.walk_engine.specs.declared.walks.Half.{Half}
use Rattle.walk_checks.specs.Exact.{is_refused}
use Rattle.walk_checks.specs.inner.Tests.{has_mark, AreSized}
use Rattle.walk_checks.proofs.refusals.Refusals.of.Given as goal

abbrev pub invariant-loop-edge : goal.invariant-loop-edge
invariant-loop-edge l = record {
  sized : AreSized l.edge_count l.refusals;
  marked : (e : ℕ) (h : Half) → e < l.edge_count → has_mark l.refusals e h ≡ is_refused (take l.edge-index l.refused) e h;
}
