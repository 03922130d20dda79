use Rattle.std.proofs.Common.{◌≡◌, map, drop}
use Rattle.std.specs.List.{list_any}
use Rattle.cargo_workspaces.specs.Views.{package_text}
use Rattle.plan_words.specs.TargetChoices.{is_called}
use Rattle.plan_starts.specs.UnfitWords.{any_target}
use Rattle.plan_starts.proofs.unfit_words.have_called.Given as goal

abbrev pub invariant-loop-ix : goal.invariant-loop-ix
invariant-loop-ix l =
    let test = any_target (map package_text l.packages) (λ t. is_called l.kind t l.word) in
    list_any test l.selected ≡ list_any test (drop l.ix-index l.selected)
