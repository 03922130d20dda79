use Rattle.std.proofs.Common.{◌++◌, List, drop, map}
use Rattle.cargo_workspaces.specs.WorkspaceView.{workspace_text}
use Rattle.feats_unused.specs.Requests.{RequestText}
use Rattle.feats_unused.specs.Shown.{AreLinesAbout, ShownText}
use Rattle.feats_unused.specs.Views.{shown_text}
use Rattle.feats_unused.specs.inner.Groups.{HasAsked}
use Rattle.feats_unused.proofs.shown_lines.lines_by.Given as goal

abbrev pub invariant-loop-member : goal.invariant-loop-member
invariant-loop-member l =
    (requests : List RequestText) → HasAsked l.asked requests → (others : List ShownText) →
    AreLinesAbout (workspace_text l.workspace).packages requests (drop l.member-index (workspace_text l.workspace).members) others →
    AreLinesAbout (workspace_text l.workspace).packages requests (workspace_text l.workspace).members (map shown_text l.shown.items ++ others)
