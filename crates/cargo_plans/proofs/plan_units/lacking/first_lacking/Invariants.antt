use Rattle.std.proofs.Common.{◌≡◌, map, drop}
use Rattle.cargo_workspaces.specs.Views.{package_text}
use Rattle.plan_rows.specs.Commands.{command_texts}
use Rattle.plan_starts.specs.Lists.{first_from}
use Rattle.cargo_plans.specs.plan_units.Lacking.{first_lacking, lacking_at}
use Rattle.cargo_plans.proofs.plan_units.lacking.first_lacking.Given as goal

abbrev pub invariant-loop-ix : goal.invariant-loop-ix
invariant-loop-ix l =
    first_lacking l.on (command_texts l.commands) (map package_text l.packages) ≡ first_from (lacking_at l.on (command_texts l.commands)) l.ix (map package_text (drop l.ix l.packages))
