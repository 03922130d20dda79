-- The tables of the steps.
use Rattle.std.specs.Prelude.{◌≡◌, Ok, length}
use Rattle.cargo_workspaces.specs.Workspaces.{WorkspaceText}
use Rattle.plan_starts.specs.guppy_packages.Graph.{tables_of}
use Rattle.plan_starts.specs.guppy_packages.Tables.{Tables}
use Rattle.plan_rows.specs.Steps.{SettingsText, resolved_entries, on_entries, built_entries}
use Rattle.plan_rows.specs.Tables.{flag_at, rows_of}
use Rattle.plan_starts.specs.PackageVisits.{PairVisit, is_kept}
use Rattle.plan_starts.specs.Starts.{Starts, dev_flags}
use Rattle.cargo_plans.specs.plan_steps.Plans.{turned_on}

-- The tables of step `resolved`.
unfoldable pub AreResolvedTables : WorkspaceText → SettingsText → Tables → Type 0
AreResolvedTables w s t = tables_of (rows_of (resolved_entries w s)) ≡ Ok t

-- The tables of step `on`.
unfoldable pub AreOnTables : WorkspaceText → SettingsText → PairVisit → Tables → Type 0
AreOnTables w s kept t = tables_of (rows_of (on_entries w s (is_kept kept))) ≡ Ok t

-- The tables of step `built`.
unfoldable pub AreBuiltTables : WorkspaceText → SettingsText → PairVisit → Starts → Tables → Type 0
AreBuiltTables w s on from t = tables_of (rows_of (built_entries w s (turned_on on) (flag_at (dev_flags (length s.targets) from)))) ≡ Ok t
