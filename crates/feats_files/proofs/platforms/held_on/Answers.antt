use Rattle.std.proofs.Common.{refl, map, rules}
use Rattle.cargo_workspaces.specs.WorkspaceView.{workspace_text}
use Rattle.plan_rows.specs.platforms.Views.{declared_text}
use Rattle.feats_files.specs.Platforms.{IsSpecRefusal, specs_message}
use Rattle.feats_files.proofs.Says.{says_of}
use Rattle.feats_files.proofs.platforms.held_on.Goals as goal

pub returns-in-Err-clause-fault : goal.returns-in-Err-clause-fault
returns-in-Err-clause-fault c =
    says_of c.specs_refused.result (specs_message (workspace_text c.args.workspace.now).packages c.in-Err.fault) (IsSpecRefusal (workspace_text c.args.workspace.now).packages (map declared_text c.args.specs.now))
    c.specs_refused.ensures (c.in-Err.fault, c.in-Err.ensures.fault, search rules, refl)
