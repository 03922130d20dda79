-- The places at which steps `resolved` and `on` start: the command features.
use Rattle.std.specs.Prelude.{ℕ, ◌+◌, List, [], ◌∷◌, ◌++◌, Bool, true, if◌then◌else◌, ◌&&◌, Option, is_some, codes, length}
use Rattle.plan_starts.specs.feature_labels.Names.{LabelName}
use Rattle.plan_starts.specs.feature_labels.Names.LabelName.{named}
use Rattle.cargo_workspaces.specs.Workspaces.{FeatureText, WorkspaceText}
use Rattle.plan_rows.specs.Steps.{SettingsText}
use Rattle.plan_starts.specs.Lists.{joined_from}
use Rattle.plan_starts.specs.Targets.{has_macro}

-- The label of a command feature.
abbrev pub command_label : LabelName
command_label = named (codes "[command]")

-- The command features of the started packages that pass the test, where the entry of package 0 has number `first`. The first command
-- is that of package `p`.
abbrev pub commands_from : (ℕ → Bool) → ℕ → ℕ → List (Option FeatureText) → List (ℕ × LabelName)
commands_from test first p commands = joined_from (λ p command. if is_some command && test p then (first + p, command_label) ∷ [] else []) p commands

abbrev pub command_places : (ℕ → Bool) → ℕ → List (Option FeatureText) → List (ℕ × LabelName)
command_places test first commands = commands_from test first 0 commands

-- Step `resolved` starts at the entries of started packages.
abbrev pub resolved_starts : WorkspaceText → SettingsText → List (ℕ × LabelName)
resolved_starts w s = command_places (λ p. true) (length w.packages) s.commands

-- Step `on` starts on the target side. If sides are told apart, packages with a target that is a procedural macro start on the host side too.
abbrev pub on_starts : WorkspaceText → SettingsText → List (ℕ × LabelName)
on_starts w s =
    command_places (λ p. true) 0 s.commands
    ++ (if s.split then command_places (has_macro w.packages) (length w.packages) s.commands else [])
