use Rattle.std.proofs.Common.{◌≡◌, ◌≤◌, true, drop}
use Rattle.platform_specs.specs.inner.Walk.{walk_over, walking}
use Rattle.platform_specs.proofs.walk.walk_over.Given as goal

-- the walk over the remaining parts ends like the walk over all parts
abbrev pub invariant-loop-part : goal.invariant-loop-part
invariant-loop-part l = record {
  rest : walk_over l.target.facts (drop l.part-index l.parts) l.walk ≡ walk_over l.target.facts l.parts (walking true);
  depth : l.walk.skipped ≤ l.part-index;
}
