use Rattle.std.proofs.Common.{◌≤◌, arith}
use Rattle.shortest_routes.proofs.numbers.node_count.Goals as goal

pub returns-in-Some-clause-links : goal.returns-in-Some-clause-links
returns-in-Some-clause-links c = λ from to h.
    let a : from ≤ c.greatest_end.result = (c.greatest_end.ensures from to h).0 in
    let b : to ≤ c.greatest_end.result = (c.greatest_end.ensures from to h).1 in
    (omega (arith, c.larger.ensures, c.in-Some.ensures), omega (arith, c.larger.ensures, c.in-Some.ensures))

pub returns-in-Some-clause-targets : goal.returns-in-Some-clause-targets
returns-in-Some-clause-targets c = λ n h.
    let a : n ≤ c.greatest.result = c.greatest.ensures n h in
    omega (arith, c.larger.ensures, c.in-Some.ensures)
