use Rattle.std.proofs.Common.{◌≡◌, ◌++◌, map, drop}
use Rattle.cargo_workspaces.specs.Views.{target_text}
use Rattle.cargo_manifests.proofs.copies.copies_of_targets.Given as goal

abbrev pub invariant-loop-target : goal.invariant-loop-target
invariant-loop-target l = map target_text l.targets ≡ map target_text l.copies.items ++ map target_text (drop l.target-index l.targets)
