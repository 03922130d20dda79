use Rattle.std.proofs.Common.{◌≡◌, map, take}
use Rattle.std.specs.String.{string_bytes}
use Rattle.plan_rows.specs.Commands.{command_texts}
use Rattle.plan_rows.specs.Gates.{gates_of}
use Rattle.plan_rows.specs.Steps.{command_list}
use Rattle.plan_rows.proofs.gates.gates_of_commands.Given as goal

abbrev pub invariant-loop-command : goal.invariant-loop-command
invariant-loop-command l = map (λ p. map (λ f. map string_bytes f.items) p.items) l.all.items ≡ map (λ c. map gates_of (command_list c)) (command_texts (take l.command-index l.commands))
