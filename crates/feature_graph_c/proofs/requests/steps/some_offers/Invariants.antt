use Rattle.std.proofs.Common.{◌≡◌, ◌-◌}
use Rattle.feature_graph_c.specs.requests.Requests.{many_in, offer_in}
use Rattle.feature_graph_c.proofs.StepLemmas.{after}
use Rattle.feature_graph_c.proofs.requests.steps.some_offers.Given as goal

-- The offers so far, and those that are read from the words to come, are all offers.
abbrev pub invariant-loop : goal.invariant-loop
invariant-loop l = after l.offers.items (many_in offer_in (l.count - l.counter) l.rest) ≡ many_in offer_in l.count l.words
