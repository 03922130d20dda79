use Rattle.std.proofs.Common.{◌≡◌, drop}
use Rattle.std.specs.List.{list_any}
use Rattle.cargo_workspaces.specs.Views.{target_text, texts}
use Rattle.plan_words.specs.TargetChoices as spec
use Rattle.plan_words.proofs.target_choice.is_any_called.Given as goal

abbrev pub invariant-loop-word : goal.invariant-loop-word
invariant-loop-word l =
    list_any (spec.is_called l.kind (target_text l.target)) (texts l.words) ≡ list_any (spec.is_called l.kind (target_text l.target)) (texts (drop l.word-index l.words))
