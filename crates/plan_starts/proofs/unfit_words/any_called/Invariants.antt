use Rattle.std.proofs.Common.{◌≡◌, map, drop}
use Rattle.std.specs.List.{list_any}
use Rattle.cargo_workspaces.specs.Views.{target_text}
use Rattle.cargo_workspaces.specs.Workspaces.{TargetText}
use Rattle.plan_words.specs.TargetChoices.{is_called}
use Rattle.plan_starts.proofs.unfit_words.any_called.Given as goal

abbrev pub invariant-loop-target : goal.invariant-loop-target
invariant-loop-target l =
    let test = λ (t : TargetText). is_called l.kind t l.word in
    list_any test (map target_text l.targets) ≡ list_any test (map target_text (drop l.target-index l.targets))
