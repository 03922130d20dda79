use Rattle.std.proofs.Common.{◌≡◌, ◌++◌, drop, flat_map, map}
use Rattle.std.specs.String.{string_bytes}
use Rattle.cargo_workspaces.specs.WorkspaceView.{workspace_text}
use Rattle.plan_names.specs.Views.{named_text}
use Rattle.feats_check.specs.texts.Messages.{candidate_line}
use Rattle.feats_check.proofs.texts.messages.push_candidates.Given as goal

abbrev pub invariant-loop-candidate : goal.invariant-loop-candidate
invariant-loop-candidate l =
    let lines = flat_map (candidate_line (workspace_text l.workspace).packages) in
    string_bytes l.initial.text ++ lines (map named_text l.candidates) ≡ string_bytes l.text ++ lines (map named_text (drop l.candidate-index l.candidates))
