use Rattle.std.proofs.Common.{◌≡◌, map, take}
use Rattle.plan_rows.specs.Commands.{command_texts}
use Rattle.plan_rows.specs.Gates.{gated_text}
use Rattle.plan_rows.specs.Steps.{command_list, gated_feature}
use Rattle.plan_rows.proofs.gated_features.features_of_commands.Given as goal

abbrev pub invariant-loop-ix : goal.invariant-loop-ix
invariant-loop-ix l = map (λ c. map gated_text c.items) l.all.items ≡ map (λ c. map gated_feature (command_list c)) (command_texts (take l.ix l.commands))
