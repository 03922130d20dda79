use Rattle.std.proofs.Common.{[], ap}
use Rattle.std.specs.Prelude.{option_and_then}
use Rattle.feature_graph_c.specs.requests.Requests.{at_end}
use Rattle.feature_graph_c.proofs.ReadBack.{start_back}
use Rattle.feature_graph_c.proofs.requests.laws.views_are_read.Goals as goal

pub returns : goal.returns
returns c = λ nodes q h. ap (option_and_then (λ s. at_end (s.0, s.1.0) s.1.1)) (start_back nodes q.0 q.1 [] h)
