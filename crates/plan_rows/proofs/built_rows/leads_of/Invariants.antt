use Rattle.std.proofs.Common.{◌≡◌, ◌+◌, length, map, take, true}
use Rattle.std.specs.List.{list_all}
use Rattle.cargo_workspaces.specs.Views.{declaration_text}
use Rattle.cargo_workspaces.specs.Workspaces.{is_within}
use Rattle.plan_rows.specs.SettingsView.{settings_text}
use Rattle.plan_rows.specs.Steps.{lead_by, built_lead}
use Rattle.plan_rows.specs.Tables.{flag_at}
use Rattle.plan_rows.proofs.built_rows.leads_of.Given as goal

abbrev pub invariant-loop-declaration : goal.invariant-loop-declaration
invariant-loop-declaration g l =
    let lead = built_lead l.rules.macros.now (settings_text g.P.Platform.holds l.rules.settings.now) (g.T.TurnedOn.turned_on l.rules.turned_on.now l.place.side) (flag_at l.rules.with_dev.now) l.place.base (g.P.Platform.holds l.place.platform.now) l.script l.ix in
    (l.leads.items ≡ map (lead_by lead) (map declaration_text (take l.declaration-index l.declarations)))
    × (list_all (is_within (l.place.base + length l.rules.macros.now)) l.leads.items ≡ true)
