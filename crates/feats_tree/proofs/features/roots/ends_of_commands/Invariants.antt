use Rattle.std.proofs.Common.{◌≡◌, ℕ, ◌<◌, length, map, take}
use Rattle.digraphs.specs.Bits.{has}
use Rattle.plan_whys.specs.StepViews.{spot_text}
use Rattle.feats_tree.specs.features.Roots.{is_asked}
use Rattle.feats_tree.proofs.features.roots.ends_of_commands.Given as goal

abbrev pub invariant-loop-link : goal.invariant-loop-link
invariant-loop-link l = record {
  size : length l.asked ≡ length l.spots;
  marks : (k : ℕ) → k < length l.spots → has l.asked k ≡ is_asked (map spot_text l.spots) (take l.link-index l.links) k;
}
