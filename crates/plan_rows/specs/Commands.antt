-- The command features: what the command line asks of each package.
use Rattle.std.specs.Prelude.{ℕ, List, map, Option, is_some, option_map, option_and_then, slice_get, Bool, true, codes}
use Rattle.std.specs.List.{list_all}
use Rattle.std.specs.Option.{option_map_or}
use Rattle.std.specs.Str.{bytes_eq}
use Rattle.cargo_workspaces.specs.Workspaces.{FeatureText}
use Rattle.cargo_workspaces.specs.Views.{feature_text}
use Rattle.cargo_workspaces.specs.declared.package.Feature.{Feature}

abbrev pub command_texts : List (Option Feature) → List (Option FeatureText)
command_texts = map (option_map feature_text)

-- The command feature of package `p`, if it is started.
abbrev pub command_of : List (Option FeatureText) → ℕ → Option FeatureText
command_of commands p = option_and_then (λ c. c) (slice_get commands p)

abbrev pub is_started : List (Option FeatureText) → ℕ → Bool
is_started commands p = is_some (command_of commands p)

-- Whether the name of each is that of a command feature.
abbrev pub are_commands : List (Option FeatureText) → Bool
are_commands commands = list_all (λ c. option_map_or (λ f. bytes_eq f.name (codes "[command]")) c true) commands
