use Rattle.std.proofs.Common.{◌≡◌, ◌++◌, map, take}
use Rattle.cargo_rows.specs.Rows.{fields_text}
use Rattle.std.specs.String.{string_bytes}
use Rattle.cargo_rows.proofs.rows.push_fields.Given as goal

abbrev pub invariant-loop-text : goal.invariant-loop-text
invariant-loop-text l = string_bytes l.rows ≡ string_bytes l.initial.rows ++ fields_text (map (λ s. s.now) (take l.text-index l.fields))
