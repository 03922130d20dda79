use Rattle.std.proofs.Common.{◌≡◌, drop}
use Rattle.cargo_workspaces.specs.Views.{texts}
use Rattle.cargo_workspaces.specs.WorkspaceView.{workspace_text}
use Rattle.plan_words.specs.FeatureWords.{first_of}
use Rattle.plan_words.specs.ItemChecks as spec
use Rattle.plan_words.proofs.item_checks.check_words.Given as goal

abbrev pub invariant-loop-word : goal.invariant-loop-word
invariant-loop-word l =
    let check = spec.word_refusal (workspace_text l.workspace) l.chosen in
    first_of check (texts l.words) ≡ first_of check (texts (drop l.word-index l.words))
