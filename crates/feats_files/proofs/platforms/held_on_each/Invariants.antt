use Rattle.std.proofs.Common.{map, take}
use Rattle.plan_rows.specs.platforms.HeldSpecs.{holds_on}
use Rattle.plan_rows.specs.platforms.Views.{declared_text}
use Rattle.feats_files.specs.Platforms.{AreHeldOnEach}
use Rattle.feats_files.proofs.platforms.held_on_each.Given as goal

abbrev pub invariant-loop-target : goal.invariant-loop-target
invariant-loop-target l = AreHeldOnEach (take l.target-index l.targets) (map declared_text l.specs) (map holds_on l.each.items)
