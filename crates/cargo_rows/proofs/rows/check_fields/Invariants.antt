use Rattle.std.proofs.Common.{◌≡◌, map, drop}
use Rattle.cargo_rows.specs.Rows.{allowed}
use Rattle.cargo_rows.proofs.rows.check_fields.Given as goal

abbrev pub invariant-loop-text : goal.invariant-loop-text
invariant-loop-text l = allowed (map (λ s. s.now) l.fields) ≡ allowed (map (λ s. s.now) (drop l.text-index l.fields))
