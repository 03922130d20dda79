-- The value that a workspace contains.
use Rattle.std.specs.Prelude.{map}
use Rattle.cargo_workspaces.specs.Workspaces.{WorkspaceText}
use Rattle.cargo_workspaces.specs.Views.{package_text}
use Rattle.cargo_workspaces.specs.declared.workspace.Workspace.{Workspace}

abbrev pub workspace_text : Workspace → WorkspaceText
workspace_text w = record { packages = map package_text w.packages.items; members = w.members.items; default_members = w.default_members.items; root = w.root }
