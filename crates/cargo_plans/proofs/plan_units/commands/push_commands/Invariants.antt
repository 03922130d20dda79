use Rattle.std.proofs.Common.{◌≡◌, ◌+◌, ◌&&◌, ◌||◌, ◌++◌, ◌∷◌, [], ℕ, Option, if◌then◌else◌, map, drop}
use Rattle.std.specs.Option.{is_some}
use Rattle.cargo_workspaces.specs.Views.{package_text}
use Rattle.cargo_workspaces.specs.Workspaces.{FeatureText}
use Rattle.plan_rows.specs.Commands.{command_texts}
use Rattle.plan_starts.specs.Lists.{joined_from}
use Rattle.plan_starts.specs.Targets.{has_macro}
use Rattle.plan_starts.specs.step_visits.Visits.{place_view}
use Rattle.cargo_plans.specs.plan_units.Commands.{commands_from}
use Rattle.cargo_plans.proofs.plan_units.commands.push_commands.Given as goal

abbrev pub invariant-loop-ix : goal.invariant-loop-ix
invariant-loop-ix l =
    let test = λ (p : ℕ). l.all || has_macro (map package_text l.packages) p in
    map place_view l.initial.places.items ++ commands_from test l.first 0 (command_texts l.commands)
    ≡ map place_view l.places.items ++ commands_from test l.first l.ix (command_texts (drop l.ix l.commands))
