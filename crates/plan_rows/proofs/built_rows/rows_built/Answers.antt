use Rattle.std.proofs.Common.{◌≡◌, ◌∙◌, ◌+◌, ◌*◌, ◌<◌, ◌^◌, ◌++◌, ap, is_ok, length, List, map, subst, sym, true, arith, ℕ}
use Rattle.std.proofs.lemmas.List.{length-map}
use Rattle.guppy_packages.specs.Graph.{tables_of}
use Rattle.guppy_packages.specs.Rows.{row_text}
use Rattle.cargo_workspaces.specs.Views.{package_text}
use Rattle.cargo_workspaces.specs.WorkspaceView.{workspace_text}
use Rattle.cargo_workspaces.specs.Workspaces.{PackageText}
use Rattle.plan_rows.specs.SettingsView.{settings_text}
use Rattle.plan_rows.specs.Steps.{built_entries, built_from, built_place, side_of}
use Rattle.plan_rows.specs.Tables.{flag_at, rows_of}
use Rattle.plan_rows.proofs.StepTables.{built_tables}
use Rattle.plan_rows.proofs.built_rows.rows_built.Goals as goal

pub new-requires : goal.new-requires
new-requires g c =
    let w = workspace_text c.args.workspace.now in
    let s = settings_text g.P.Platform.holds c.args.settings.now in
    let turned_on = g.T.TurnedOn.turned_on c.args.turned_on.now in
    let with_dev = flag_at c.args.with_dev.now in
    let given = c.packages-packages.result.now in
    let ps = map package_text given in
    let targets = c.args.settings.now.targets.now in
    let count = length w.packages in
    let entries = λ (xs : List PackageText) (n : ℕ). built_place xs s (turned_on (side_of s.split true)) with_dev 0 s.host ++ built_from xs s turned_on with_dev n s.targets in
    let pushed : map row_text c.push_places.new.rows.items ≡ rows_of (built_entries w s turned_on with_dev) =
    c.in_ok-push_places.ensures ∙ ap (λ z. map row_text z ++ rows_of (entries ps (length given))) c.new-rows.ensures.items
    ∙ ap (λ n. rows_of (entries ps n)) (sym (length-map given package_text)) ∙ ap (λ z. rows_of (entries z (length z))) c.packages-packages.ensures in
    let limit : count + length targets * count < 2 ^ 64 = omega arith in
    let small : count + length s.targets * count < 2 ^ 64 = subst (λ n. count + n * count < 2 ^ 64) (sym (length-map targets g.P.Platform.holds)) limit in
    subst (λ rows. is_ok (tables_of rows) ≡ true) (sym pushed) (built_tables w s turned_on with_dev c.facts.ensures small)
