-- The value that settings contain.
use Rattle.std.specs.Prelude.{Bool, map}
use Rattle.cargo_workspaces.specs.Workspaces.{Text}
use Rattle.plan_words.specs.TargetChoices.{target_choice_text}
use Rattle.plan_rows.specs.Commands.{command_texts}
use Rattle.plan_rows.specs.Steps.{SettingsText}
use Rattle.plan_rows.specs.declared.settings.Settings.{Settings}

-- `holds` is what a platform's value means.
abbrev pub settings_text : {P : Type 0} → (P → Text → Bool) → Settings P → SettingsText
settings_text holds s = record { split = s.split; choice = target_choice_text s.choice; commands = command_texts s.commands.now; host = holds s.host.now; targets = map holds s.targets.now }
