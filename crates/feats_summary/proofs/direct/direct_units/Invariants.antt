use Rattle.std.proofs.Common.{◌≡◌, ℕ, ◌<◌, length, map, take}
use Rattle.digraphs.specs.Bits.{has}
use Rattle.cargo_plans.specs.plan_units.UnitViews.{unit_text}
use Rattle.feats_summary.specs.Summaries.{is_direct}
use Rattle.feats_summary.proofs.direct.direct_units.Given as goal

abbrev pub invariant-loop-link : goal.invariant-loop-link
invariant-loop-link l = record {
  size : length l.direct ≡ length l.units;
  marks : (k : ℕ) → k < length l.units → has l.direct k ≡ is_direct l.members (map unit_text l.units) (take l.link-index l.links) k;
}
