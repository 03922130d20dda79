pub mod Views
pub mod WorkspaceView
pub mod Workspaces
