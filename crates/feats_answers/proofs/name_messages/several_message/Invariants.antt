use Rattle.std.proofs.Common.{◌≡◌, ◌++◌, drop, map}
use Rattle.std.specs.Prelude.{flat_map}
use Rattle.std.specs.String.{string_bytes}
use Rattle.cargo_workspaces.specs.WorkspaceView.{workspace_text}
use Rattle.plan_names.specs.Views.{named_text}
use Rattle.feats_answers.specs.NameMessages.{part_line, several_message}
use Rattle.feats_answers.proofs.name_messages.several_message.Given as goal

abbrev pub invariant-loop-candidate : goal.invariant-loop-candidate
invariant-loop-candidate l =
    let packages = (workspace_text l.workspace).packages in
    several_message packages l.word (map named_text l.candidates)
    ≡ string_bytes l.text ++ flat_map (part_line packages) (map named_text (drop l.candidate-index l.candidates))
