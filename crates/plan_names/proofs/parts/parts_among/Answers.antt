use Rattle.std.proofs.Common.{map}
use Rattle.cargo_workspaces.specs.Views.{package_text}
use Rattle.cargo_workspaces.specs.WorkspaceView.{workspace_text}
use Rattle.plan_names.specs.Views.{named_text}
use Rattle.plan_names.proofs.Among.{among_is}
use Rattle.plan_names.proofs.parts.parts_among.Goals as goal

pub returns : goal.returns
returns c =
    among_is c.parts_at.result (λ v. map named_text v.items) c.package_count.result c.in_ok-list.list.items c.deref.result.now c.args.numbers.now c.args.name.now (map package_text c.packages.result.now) (workspace_text c.args.workspace.now).packages
    c.package_count.ensures c.deref.ensures.value c.in_ok-list.ensures c.packages.ensures c.parts_at.ensures
