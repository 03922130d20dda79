use Rattle.std.proofs.Common.{◌≡◌, ◌∙◌, ℕ, ◌+◌, ◌<◌, List, ◌∷◌, ◌++◌, flat_map, map, drop, length, get_or, ap, sym, refl, append_assoc, add-one, drop-cons}
use Rattle.feats_lines.specs.Objects.{object_line}
use Rattle.feats_lines.specs.Views.{shown_text}
use Rattle.feats_lines.specs.declared.shown.Shown.{Shown}
use Rattle.feats_lines.proofs.objects.objects_of.Goals as goal

-- one more object
objects_more : (units : List Shown) (i : ℕ) (u : Shown) (all so_far new : List ℕ) → i < length units → u ≡ get_or units i u
    → all ≡ so_far ++ flat_map object_line (map shown_text (drop i units)) → new ≡ so_far ++ object_line (shown_text u)
    → all ≡ new ++ flat_map object_line (map shown_text (drop (i + 1) units))
objects_more units i u all so_far new within is so grown =
    let at : drop i units ≡ get_or units i u ∷ drop (i + 1) units = rw (add-one, drop-cons units i u within) refl in
    so ∙ ap (λ us. so_far ++ flat_map object_line (map shown_text us)) at
    ∙ ap (λ (x : Shown). so_far ++ (object_line (shown_text x) ++ flat_map object_line (map shown_text (drop (i + 1) units)))) (sym is)
    ∙ sym (append_assoc so_far (object_line (shown_text u)) (flat_map object_line (map shown_text (drop (i + 1) units))))
    ∙ ap (λ t. t ++ flat_map object_line (map shown_text (drop (i + 1) units))) (sym grown)

pub loop-unit-preserved : goal.loop-unit-preserved
loop-unit-preserved c =
    objects_more c.args.units.now c.loop-unit.unit-index c.unit-item.result (flat_map object_line (map shown_text c.args.units.now)) c.loop-unit.text.items c.in_ok-text.text.items
    c.loop-unit-test.true c.unit-item.is c.loop-unit.invariant c.in_ok-text.ensures
