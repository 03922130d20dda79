use Rattle.std.proofs.Common.{◌≡◌, subst, sym}
use Rattle.std.specs.Prelude.{IfOk}
use Rattle.cargo_workspaces.specs.WorkspaceView.{workspace_text}
use Rattle.feats_policies.specs.Views.{kind_text}
use Rattle.feats_policies.specs.declared.rule.RuleKind.{RuleKind}
use Rattle.feats_policies.specs.checks.Meanings.{names_nothing}
use Rattle.feats_policies.proofs.checks.unmatched_rules.names_nothing.Goals as goal

pub returns-in-Deny : goal.returns-in-Deny
returns-in-Deny c =
    subst (λ (kind : RuleKind). IfOk c.means_nothing.result (λ b. b ≡ names_nothing (workspace_text c.args.workspace.now).packages c.args.selected.now (kind_text kind))) (sym c.in-Deny.is) c.means_nothing.ensures
