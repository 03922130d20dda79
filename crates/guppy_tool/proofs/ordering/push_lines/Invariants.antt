use Rattle.std.proofs.Common.{◌≡◌, ◌++◌, ◌∷◌, [], drop}
use Rattle.std.specs.Prelude.{flat_map}
use Rattle.std.specs.String.{string_bytes}
use Rattle.feature_labels.specs.Names.{id_of, id_text}
use Rattle.guppy_tool.proofs.ordering.push_lines.Given as goal

-- The text so far and the lines of the ids to come are the text at first and the lines of all ids.
abbrev pub invariant-loop-id : goal.invariant-loop-id
invariant-loop-id l = string_bytes l.text ++ flat_map (λ id. id_text (id_of id) ++ 10 ∷ []) (drop l.id-index l.ids) ≡ string_bytes l.fn.text ++ flat_map (λ id. id_text (id_of id) ++ 10 ∷ []) l.ids
