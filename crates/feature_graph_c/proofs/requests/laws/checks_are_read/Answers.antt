use Rattle.std.proofs.Common.{◌∙◌, ap}
use Rattle.std.specs.Prelude.{option_and_then}
use Rattle.std.specs.Option.{option_map}
use Rattle.feature_graph_c.specs.requests.Requests.{check_request, lists_in}
use Rattle.feature_graph_c.specs.requests.Written.{list_numbers}
use Rattle.feature_graph_c.proofs.ReadBack.{start_back, lists_back}
use Rattle.feature_graph_c.proofs.requests.laws.checks_are_read.Goals as goal

pub returns : goal.returns
returns c = λ nodes q h.
    ap (option_and_then (λ s. option_map (check_request s.0 s.1.0) (lists_in s.1.1))) (start_back nodes q.direction q.initials (list_numbers q.steps q.refused) h)
    ∙ ap (option_map (check_request q.direction q.initials)) (lists_back q.steps q.refused)
