use Rattle.std.proofs.Common.{◌≡◌, ◌∙◌, ◌++◌, [], ap, is_ok, map, subst, sym, true, arith, List, ℕ}
use Rattle.guppy_packages.specs.Graph.{tables_of}
use Rattle.guppy_packages.specs.Rows.{RowText, row_text}
use Rattle.cargo_workspaces.specs.WorkspaceView.{workspace_text}
use Rattle.cargo_workspaces.specs.Workspaces.{PackageText, WorkspaceText}
use Rattle.plan_rows.specs.Commands.{command_of}
use Rattle.plan_rows.specs.SettingsView.{settings_text}
use Rattle.plan_rows.specs.Steps.{SettingsText, other_entry, resolved_entries, started_entry}
use Rattle.plan_rows.specs.Tables.{each_from, rows_of}
use Rattle.plan_rows.proofs.StepTables.{resolved_tables}
use Rattle.plan_rows.proofs.resolved_rows.rows_resolved.Goals as goal

-- rows that are appended to none are those of the entries
appended : (w : WorkspaceText) (s : SettingsText) (packages : List PackageText) (old new : List RowText)
    → new ≡ old ++ rows_of (each_from other_entry 0 packages ++ each_from (λ p x. started_entry (command_of s.commands p) x) 0 packages) → old ≡ [] → packages ≡ w.packages → new ≡ rows_of (resolved_entries w s)
appended w s packages old new is none same =
    let started = λ (p : ℕ) (x : PackageText). started_entry (command_of s.commands p) x in
    is ∙ ap (λ z. z ++ rows_of (each_from other_entry 0 packages ++ each_from started 0 packages)) none
    ∙ ap (λ z. rows_of (each_from other_entry 0 z ++ each_from started 0 z)) same

pub new-requires : goal.new-requires
new-requires g c =
    let w = workspace_text c.args.workspace.now in
    let s = settings_text g.P.Platform.holds c.args.settings.now in
    let pushed : map row_text c.push_both.new.rows.items ≡ rows_of (resolved_entries w s) = appended w s _ _ _ c.in_ok-push_both.ensures (ap (map row_text) c.new-rows.ensures.items) c.packages-packages.ensures in
    subst (λ rows. is_ok (tables_of rows) ≡ true) (sym pushed) (resolved_tables w s c.facts.ensures c.requires.commands (omega arith))

pub returns : goal.returns
returns g c =
    let w = workspace_text c.args.workspace.now in
    let s = settings_text g.P.Platform.holds c.args.settings.now in
    c.new.ensures ∙ appended w s _ _ _ c.in_ok-push_both.ensures (ap (map row_text) c.new-rows.ensures.items) c.packages-packages.ensures
