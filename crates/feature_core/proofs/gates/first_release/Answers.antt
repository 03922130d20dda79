use Rattle.std.proofs.Common.{rules, ◌≡◌, true, false}
use Rattle.std.specs.Prelude.{nat_lt}
use Rattle.std.specs.List.Sorted.{IsPartitionPoint}
use Rattle.std.proofs.lemmas.List.Sorted.{IsPartitionPoint-from_clause, IsPartitionedBy-ltb}
use Rattle.feature_core.proofs.Released.{begins_at, gates_ascend}
use Rattle.feature_core.proofs.gates.first_release.Goals as goal

pub returns-clause-begins : goal.returns-clause-begins
returns-clause-begins c =
    let rs = c.args.released.now in
    let gate = c.args.gate in
    let first = c.partition_point.result in
    let point : IsPartitionPoint (λ r. nat_lt r.0 gate ≡ true) (λ r. nat_lt r.0 gate ≡ false) rs first = IsPartitionPoint-from_clause (λ r. nat_lt r.0 gate) rs first c.partition_point.ensures.partitioned (IsPartitionedBy-ltb (λ r. r.0) rs gate (gates_ascend rs c.requires)) (λ a r f k. search rules) in
    begins_at gate first rs point
