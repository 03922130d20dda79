use Rattle.std.proofs.Common.{◌≡◌, ◌∙◌, ◌++◌, ap, is_ok, map, subst, sym, true, arith}
use Rattle.guppy_packages.specs.Graph.{tables_of}
use Rattle.guppy_packages.specs.Rows.{row_text}
use Rattle.cargo_workspaces.specs.Views.{package_text}
use Rattle.cargo_workspaces.specs.WorkspaceView.{workspace_text}
use Rattle.plan_rows.specs.SettingsView.{settings_text}
use Rattle.plan_rows.specs.Steps.{host_entries, on_entries, on_side}
use Rattle.plan_rows.specs.Tables.{rows_of}
use Rattle.plan_rows.specs.declared.side.Side.TheVariants.{Target}
use Rattle.plan_rows.proofs.StepTables.{on_tables}
use Rattle.plan_rows.proofs.on_rows.rows_on.Goals as goal

pub new-requires : goal.new-requires
new-requires g c =
    let w = workspace_text c.args.workspace.now in
    let s = settings_text g.P.Platform.holds c.args.settings.now in
    let kept = g.K.Kept.kept c.args.kept.now in
    let ps = map package_text c.packages-packages.result.now in
    let pushed : map row_text c.push_sides.new.rows.items ≡ rows_of (on_entries w s kept) =
    c.in_ok-push_sides.ensures ∙ ap (λ z. map row_text z ++ rows_of (on_side ps s kept Target ++ host_entries ps s kept)) c.new-rows.ensures.items
    ∙ ap (λ z. rows_of (on_side z s kept Target ++ host_entries z s kept)) c.packages-packages.ensures in
    subst (λ rows. is_ok (tables_of rows) ≡ true) (sym pushed) (on_tables w s kept c.facts.ensures c.requires.commands (omega arith))
