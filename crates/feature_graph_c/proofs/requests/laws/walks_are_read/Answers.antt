use Rattle.std.proofs.Common.{◌∙◌, ap}
use Rattle.std.specs.Prelude.{option_and_then}
use Rattle.std.specs.Option.{option_map}
use Rattle.feature_graph_c.specs.requests.Requests.{walk_request, choice_in}
use Rattle.feature_graph_c.specs.requests.Written.{choice_numbers}
use Rattle.feature_graph_c.proofs.ReadBack.{start_back, choice_back}
use Rattle.feature_graph_c.proofs.requests.laws.walks_are_read.Goals as goal

pub returns : goal.returns
returns c = λ nodes edges q h is.
    ap (option_and_then (λ s. option_map (walk_request s.0 s.1.0) (choice_in edges s.1.1))) (start_back nodes q.direction q.initials (choice_numbers q.choice) h)
    ∙ ap (option_map (walk_request q.direction q.initials)) (choice_back edges q.choice is)
