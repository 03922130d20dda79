-- The results of looking edges up in a table.
use Rattle.std.specs.Prelude.{◌≡◌, Option, Some, None, IsTrue}
use Rattle.walk_engine.specs.Walks.{Way, is_gated}
use Rattle.walk_checks.specs.declared.table.TableEdge.{TableEdge}

-- The edge is the way. The gate matters only if the ask is gated.
pub record IsEdge (w : Way) (edge : TableEdge) : Type 0 where
  pub start : edge.start ≡ w.start
  pub far : edge.far ≡ w.far
  pub ask : edge.ask ≡ w.ask
  pub gate : IsTrue (is_gated w.ask) → edge.gate ≡ w.gate

-- The result is the way with that number, or `None` if there is none.
abbrev pub Tells : Option Way → Option TableEdge → Type 0
Tells None None = Unit {0}
Tells None (Some edge) = ⊥
Tells (Some w) None = ⊥
Tells (Some w) (Some edge) = IsEdge w edge
