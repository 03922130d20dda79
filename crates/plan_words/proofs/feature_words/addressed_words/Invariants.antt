use Rattle.std.proofs.Common.{◌≡◌, map, take}
use Rattle.cargo_workspaces.specs.Views.{texts}
use Rattle.cargo_workspaces.specs.WorkspaceView.{workspace_text}
use Rattle.plan_words.specs.FeatureWords as spec
use Rattle.plan_words.specs.inner.Views.{addressed_text}
use Rattle.plan_words.proofs.feature_words.addressed_words.Given as goal

abbrev pub invariant-loop-word : goal.invariant-loop-word
invariant-loop-word l =
    map addressed_text l.items.items ≡ map (spec.addressed (workspace_text l.workspace) l.root l.chosen) (texts (take l.word-index l.words))
