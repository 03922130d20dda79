use Rattle.std.proofs.Common.{◌≡◌, ◌++◌, ℕ, drop, length, true}
use Rattle.std.specs.Prelude.{nat_lt}
use Rattle.std.specs.List.{filter, list_all}
use Rattle.cargo_workspaces.specs.Views.{texts}
use Rattle.cargo_workspaces.specs.WorkspaceView.{workspace_text}
use Rattle.plan_words.specs.PackageWords as spec
use Rattle.plan_words.proofs.package_words.members_but.Given as goal

abbrev pub invariant-loop-member : goal.invariant-loop-member
invariant-loop-member l =
    let w = workspace_text l.workspace in
    (spec.members_but w (texts l.words) ≡ l.kept.items ++ filter (spec.is_kept w (texts l.words)) (drop l.member-index w.members))
    × (list_all (λ (p : ℕ). nat_lt p (length w.packages)) l.kept.items ≡ true)
