use Rattle.std.proofs.Common.{ap, length, List, map}
use Rattle.cargo_workspaces.specs.Views.{package_text}
use Rattle.cargo_workspaces.specs.WorkspaceView.{workspace_text}
use Rattle.cargo_workspaces.specs.Workspaces.{PackageText}
use Rattle.plan_words.specs.Selections.{selection_text}
use Rattle.plan_words.specs.inner.Views.{started_text}
use Rattle.plan_words.proofs.CommandLemmas.{if_ok_count, if_ok_named}
use Rattle.plan_words.proofs.commands.commands_begun.Goals as goal

pub returns-clause-count : goal.returns-clause-count
returns-clause-count c =
    if_ok_count c.commands_in.result (λ v. v.items) (selection_text c.args.selection.now) (started_text c.args.begun.now) (map package_text c.packages.result.now) (length (workspace_text c.args.workspace.now).packages) (ap (λ (ps : List PackageText). length ps) c.packages.ensures) c.commands_in.ensures

pub returns-clause-named : goal.returns-clause-named
returns-clause-named c = if_ok_named c.commands_in.result (λ v. v.items) (selection_text c.args.selection.now) (started_text c.args.begun.now) (map package_text c.packages.result.now) c.commands_in.ensures
