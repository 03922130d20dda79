use Rattle.std.proofs.Common.{map}
use Rattle.cargo_workspaces.specs.WorkspaceView.{workspace_text}
use Rattle.plan_names.specs.Views.{named_text}
use Rattle.plan_names.specs.inner.Cuts.{cut_text}
use Rattle.plan_names.proofs.Matching.{by_cut}
use Rattle.plan_names.proofs.matches.matching_by_name.Goals as goal

pub returns-in-Some : goal.returns-in-Some
returns-in-Some c =
    by_cut c.matching_of_cut.result (λ v. map named_text v.items) (workspace_text c.args.workspace.now).packages c.args.selected.now c.args.word.now (cut_text c.in-Some.cut) c.in-Some.ensures c.matching_of_cut.ensures
