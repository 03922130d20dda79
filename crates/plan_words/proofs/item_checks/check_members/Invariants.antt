use Rattle.std.proofs.Common.{◌≡◌, drop}
use Rattle.cargo_workspaces.specs.WorkspaceView.{workspace_text}
use Rattle.plan_words.specs.FeatureWords.{first_of}
use Rattle.plan_words.specs.ItemChecks as spec
use Rattle.plan_words.specs.inner.Views.{words_text}
use Rattle.plan_words.proofs.item_checks.check_members.Given as goal

abbrev pub invariant-loop-member : goal.invariant-loop-member
invariant-loop-member l =
    let check = spec.member_refusal (workspace_text l.workspace) (words_text l.words) in
    first_of check l.members ≡ first_of check (drop l.member-index l.members)
