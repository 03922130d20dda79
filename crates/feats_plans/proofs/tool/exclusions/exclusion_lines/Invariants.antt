use Rattle.std.proofs.Common.{◌≡◌, ◌++◌, drop}
use Rattle.cargo_workspaces.specs.Views.{texts}
use Rattle.cargo_workspaces.specs.WorkspaceView.{workspace_text}
use Rattle.feats_plans.specs.tool.Exclusions.{exclusion_lines}
use Rattle.feats_plans.specs.tool.lost_dependencies.Strings.{string_texts}
use Rattle.feats_plans.proofs.tool.exclusions.exclusion_lines.Given as goal

abbrev pub invariant-loop-word : goal.invariant-loop-word
invariant-loop-word l =
    let lines = exclusion_lines (workspace_text l.workspace) in
    lines (texts l.words) ≡ string_texts l.lines.items ++ lines (texts (drop l.word-index l.words))
