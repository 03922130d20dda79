use Rattle.std.proofs.Common.{◌≡◌, ◌∙◌, List, ap, map}
use Rattle.cargo_workspaces.specs.WorkspaceView.{workspace_text}
use Rattle.feats_unused.specs.Requests.{RequestText, all_requests, asked_of, requests_from}
use Rattle.feats_unused.specs.Views.{request_text}
use Rattle.feats_unused.proofs.shown_lines.lines_of_members.Goals as goal

pub returns : goal.returns
returns c =
    let w = workspace_text c.args.workspace.now in
    let all : map request_text c.deref.result.now ≡ all_requests w = ap (map request_text) c.deref.ensures.value ∙ c.in_ok-requests.ensures ∙ ap (requests_from 0) c.packages.ensures in
    c.lines_by.ensures (all_requests w) (λ q. c.in_ok-asked.ensures q ∙ ap (λ (rs : List RequestText). asked_of rs q) all)
