use Rattle.std.proofs.Common.{◌≡◌, ℕ, drop}
use Rattle.std.specs.Option.{option_or}
use Rattle.cargo_workspaces.specs.WorkspaceView.{workspace_text}
use Rattle.plan_words.specs.FeatureWords as spec
use Rattle.plan_words.proofs.feature_words.member_called.Given as goal

abbrev pub invariant-loop-member : goal.invariant-loop-member
invariant-loop-member l =
    let called = λ (m : ℕ). spec.value_if (spec.is_called (workspace_text l.workspace) l.name m) m in
    spec.last_of called (workspace_text l.workspace).members ≡ option_or (spec.last_of called (drop l.member-index (workspace_text l.workspace).members)) l.found
