-- The value that rules for targets contain.
use Rattle.std.specs.Prelude.{Bool, map}
use Rattle.cargo_workspaces.specs.Views.{package_text}
use Rattle.cargo_workspaces.specs.Workspaces.{Text}
use Rattle.plan_rows.specs.SettingsView.{settings_text}
use Rattle.plan_starts.specs.Targets.{TargetRules}
use Rattle.plan_starts.specs.declared.targets.TargetRules.{TargetRules as Rules}

-- `holds` is what a platform's value means.
abbrev pub rules_text : {P : Type 0} → (P → Text → Bool) → Rules P → TargetRules
rules_text holds r = record { settings = settings_text holds r.settings.now; packages = map package_text r.packages.now; kept = r.kept.now; on = r.on.now }
