use Rattle.cargo_workspaces.specs.WorkspaceView.{workspace_text}
use Rattle.plan_names.specs.Matches.{parts_matching}
use Rattle.feats_policies.proofs.checks.meaning.meaning_of.Goals as goal

pub returns-in-Err : goal.returns-in-Err
returns-in-Err c =
    c.meaning_by.ensures (parts_matching (workspace_text c.args.workspace.now).packages c.args.selected.now c.args.word.now) c.in-Err.ensures
