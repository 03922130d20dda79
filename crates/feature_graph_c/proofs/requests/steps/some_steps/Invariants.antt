use Rattle.std.proofs.Common.{◌≡◌, ◌-◌}
use Rattle.feature_graph_c.specs.requests.Requests.{many_in, step_in}
use Rattle.feature_graph_c.proofs.StepLemmas.{after}
use Rattle.feature_graph_c.proofs.requests.steps.some_steps.Given as goal

-- The steps so far, and those that are read from the words to come, are all steps.
abbrev pub invariant-loop : goal.invariant-loop
invariant-loop l = after l.steps.items (many_in step_in (l.count - l.counter) l.rest) ≡ many_in step_in l.count l.words
