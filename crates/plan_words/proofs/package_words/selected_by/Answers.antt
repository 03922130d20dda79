use Rattle.cargo_workspaces.specs.WorkspaceView.{workspace_text}
use Rattle.plan_words.proofs.Within.{selected_below}
use Rattle.plan_words.proofs.package_words.selected_by.Goals as goal

pub returns-clause-within : goal.returns-clause-within
returns-clause-within c =
    selected_below (λ v. v.items) (workspace_text c.args.workspace.now) c.args.word.now c.selected_of.result c.facts.ensures.2
    (rw (← c.in_ok-numbers.ensures, ← c.in_ok-fitting.ensures) c.selected_of.ensures)
