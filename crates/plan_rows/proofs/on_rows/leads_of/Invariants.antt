use Rattle.std.proofs.Common.{◌≡◌, ◌*◌, length, map, take, true}
use Rattle.std.specs.List.{list_all}
use Rattle.cargo_workspaces.specs.Views.{declaration_text}
use Rattle.cargo_workspaces.specs.Workspaces.{is_within}
use Rattle.plan_rows.specs.SettingsView.{settings_text}
use Rattle.plan_rows.specs.Steps.{lead_by, on_lead}
use Rattle.plan_rows.proofs.on_rows.leads_of.Given as goal

abbrev pub invariant-loop-declaration : goal.invariant-loop-declaration
invariant-loop-declaration g l =
    (l.leads.items ≡ map (lead_by (on_lead l.rules.macros.now (settings_text g.P.Platform.holds l.rules.settings.now) (g.K.Kept.kept l.rules.kept.now) l.side l.ix)) (map declaration_text (take l.declaration-index l.declarations)))
    × (list_all (is_within (2 * length l.rules.macros.now)) l.leads.items ≡ true)
