use Rattle.std.proofs.Common.{◌≡◌, ◌++◌, drop}
use Rattle.std.specs.Prelude.{flat_map}
use Rattle.std.specs.String.{string_bytes}
use Rattle.cargo_workspaces.specs.WorkspaceView.{workspace_text}
use Rattle.feats_files.specs.plan_messages.Messages.{package_line, several_message}
use Rattle.feats_files.proofs.plan_messages.refusals.several_message.Given as goal

abbrev pub invariant-loop-candidate : goal.invariant-loop-candidate
invariant-loop-candidate l =
    several_message (workspace_text l.workspace).packages l.word l.candidates
    ≡ string_bytes l.text ++ flat_map (package_line (workspace_text l.workspace).packages) (drop l.candidate-index l.candidates)
