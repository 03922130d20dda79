use Rattle.std.proofs.Common.{◌≡◌, ◌++◌, ◌∷◌, [], ◌∙◌, ◌-◌, ◌≤◌, Bool, true, List, ℕ, length, ap, append_assoc, refl, take, drop, get_or, arith}
use Rattle.std.proofs.Output.{has_written_append}
use Rattle.std.proofs.lemmas.List.{take_all}
use Rattle.platform_specs.specs.declared.parts.Part.{Part}
use Rattle.platform_specs.specs.inner.PartTexts.{is_closed, part_text, text_of}
use Rattle.platform_specs.proofs.parts.write_parts.Goals as goal

-- one more part
one_more : (rest : List Part) (p : Part) (b : Bool) (done all : List ℕ) → 1 ≤ length rest → p ≡ get_or rest 0 p → b ≡ is_closed (take (length rest - 1) (drop 1 rest))
    → done ++ text_of rest ≡ all → (done ++ part_text p b) ++ text_of (take (length rest - 1) (drop 1 rest)) ≡ all
one_more [] p b done all l is closes h = absurd (omega (arith, l))
one_more (x ∷ xs) p b done all l is closes h =
    let behind : take (length (x ∷ xs) - 1) xs ≡ xs = take_all (length (x ∷ xs) - 1) xs (omega arith) in
    append_assoc done (part_text p b) (text_of (take (length (x ∷ xs) - 1) xs))
    ∙ ap (λ z. done ++ (part_text p b ++ text_of z)) behind
    ∙ ap (λ z. done ++ (part_text p z ++ text_of xs)) (closes ∙ ap is_closed behind)
    ∙ ap (λ z. done ++ (part_text z (is_closed xs) ++ text_of xs)) is
    ∙ h

pub parts-preserved : goal.parts-preserved
parts-preserved g c = λ plain.
    let (done, whole, wrote) = c.parts.invariant plain in
    let one = c.in_ok-write_part.ensures wrote.plain (refl {a = true}) in (
      done ++ part_text c.part-item.result c.is_closed.result,
      one_more c.parts.rest.now c.part-item.result c.is_closed.result done _ c.in-len1-up.len_at_least c.part-item.is c.is_closed.ensures whole,
      has_written_append _ _ _ _ _ _ wrote one,
    )
