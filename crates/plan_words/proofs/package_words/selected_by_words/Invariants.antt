use Rattle.std.proofs.Common.{◌≡◌, ◌++◌, ℕ, drop, length, true}
use Rattle.std.specs.Prelude.{Ok, nat_lt}
use Rattle.std.specs.List.{list_all}
use Rattle.cargo_workspaces.specs.Views.{texts}
use Rattle.cargo_workspaces.specs.WorkspaceView.{workspace_text}
use Rattle.plan_words.specs.PackageWords as spec
use Rattle.plan_words.specs.Refusals.{◌>>=◌}
use Rattle.plan_words.proofs.package_words.selected_by_words.Given as goal

abbrev pub invariant-loop-word : goal.invariant-loop-word
invariant-loop-word l =
    let w = workspace_text l.workspace in
    (spec.selected_by_words w (texts l.words) ≡ (spec.selected_by_words w (texts (drop l.word-index l.words)) >>= λ rest. Ok (l.packages.items ++ rest)))
    × (list_all (λ (p : ℕ). nat_lt p (length w.packages)) l.packages.items ≡ true)
