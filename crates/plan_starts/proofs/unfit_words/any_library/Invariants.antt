use Rattle.std.proofs.Common.{◌≡◌, map, drop}
use Rattle.std.specs.List.{list_any}
use Rattle.cargo_workspaces.specs.Views.{target_text}
use Rattle.cargo_workspaces.specs.Workspaces.{is_library}
use Rattle.plan_starts.proofs.unfit_words.any_library.Given as goal

abbrev pub invariant-loop-target : goal.invariant-loop-target
invariant-loop-target l = list_any is_library (map target_text l.targets) ≡ list_any is_library (map target_text (drop l.target-index l.targets))
