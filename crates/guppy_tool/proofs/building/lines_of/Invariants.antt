use Rattle.std.proofs.Common.{◌≡◌, ◌++◌, drop}
use Rattle.std.specs.Prelude.{flat_map}
use Rattle.std.specs.String.{string_bytes}
use Rattle.feature_graph.specs.Told.{step_name}
use Rattle.guppy_tool.specs.Answers.{step_line}
use Rattle.guppy_tool.proofs.building.lines_of.Given as goal

-- The text so far and the lines of the steps to come are the lines of all.
abbrev pub invariant-loop-step : goal.invariant-loop-step
invariant-loop-step l = string_bytes l.text ++ flat_map (λ s. step_line (step_name s)) (drop l.step-index l.steps) ≡ flat_map (λ s. step_line (step_name s)) l.steps
