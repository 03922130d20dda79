use Rattle.std.proofs.Common.{◌≡◌, ◌∙◌, List, length, map, ap, sym, subst, true}
use Rattle.std.specs.Prelude.{nat_lt}
use Rattle.std.specs.List.{list_all}
use Rattle.std.proofs.lemmas.List.{length-map}
use Rattle.cargo_workspaces.specs.Views.{package_text}
use Rattle.cargo_workspaces.specs.Workspaces.{PackageText}
use Rattle.cargo_workspaces.specs.WorkspaceView.{workspace_text}
use Rattle.plan_rows.specs.SettingsView.{settings_text}
use Rattle.cargo_plans.proofs.StageLemmas.{started_by}
use Rattle.cargo_plans.proofs.plan_steps.stages.started.Goals as goal

pub starts_of-requires : goal.starts_of-requires
starts_of-requires g c =
    let long = sym (ap (λ (ps : List PackageText). length ps) c.packages.ensures) ∙ length-map c.packages.result.now package_text in
    subst (λ n. list_all (λ p. nat_lt p n) c.args.selected.now ≡ true) long c.requires

pub returns : goal.returns
returns g c =
    started_by (workspace_text c.args.workspace.now) (settings_text g.P.Platform.holds c.args.settings.now) c.args.selected.now c.args.kept.now c.args.on.now (map package_text c.packages.result.now) c.starts_of.result c.packages.ensures c.starts_of.ensures
