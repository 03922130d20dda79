use Rattle.std.proofs.Common.{ℕ, length, get_or, false}
use Rattle.std.specs.Prelude.{nat_lt}
use Rattle.cargo_workspaces.specs.WorkspaceView.{workspace_text}
use Rattle.plan_words.proofs.Lists.{if_ok_filtered}
use Rattle.plan_words.proofs.started.members_among.Goals as goal

pub returns-clause-within : goal.returns-clause-within
returns-clause-within c =
    if_ok_filtered c.marked_among.result (λ v. v.items) (λ (p : ℕ). nat_lt p (length (workspace_text c.args.workspace.now).packages)) (λ (n : ℕ). get_or c.deref.result.now n false) c.args.packages.now c.marked_among.ensures c.requires
