-- The texts of a list, one after the other.
use Rattle.std.proofs.Common.{◌≡◌, ◌∙◌, sym, ap, refl, ℕ, ◌+◌, ◌<◌, List, [], ◌∷◌, ◌++◌, length, drop, get_or, append_assoc, add-one, drop-cons}
use Rattle.std.specs.Prelude.{Option, Some, None, option_map}
use Rattle.std.specs.declared.alloc.Global.{Global}
use Rattle.json.specs.Json.{item}
use Rattle.json.specs.Find.{as_str}
use Rattle.json.specs.Value.{value_view, items_view}
use Rattle.json.specs.declared.value.Value.{Value}
use Rattle.cargo_json.specs.Faults.{Text}
use Rattle.cargo_json.specs.Fields.{all_texts}

-- those so far, and then the others
abbrev pub after : List Text → Option (List Text) → Option (List Text)
after texts rest = option_map (λ more. texts ++ more) rest

after_one : (texts : List Text) (s : Text) (rest : Option (List Text)) → after texts (option_map (λ more. s ∷ more) rest) ≡ after (texts ++ s ∷ []) rest
after_one texts s (Some more) = ap Some (sym (append_assoc texts (s ∷ []) more))
after_one texts s None = refl

module _ (vs : List (Value Global)) (i : ℕ) (v : Value Global) (texts : List Text) (whole : Option (List Text)) (within : i < length vs) (is : v ≡ get_or vs i v) (so : whole ≡ after texts (all_texts (items_view (drop i vs)))) where
  here : items_view (drop i vs) ≡ item (value_view v) (items_view (drop (i + 1) vs))
  here =
      let at : drop i vs ≡ get_or vs i v ∷ drop (i + 1) vs = rw (add-one, drop-cons vs i v within) refl in
      rw at (ap (λ x. item (value_view x) (items_view (drop (i + 1) vs))) (sym is))

  pub texts_more : (s : Text) → as_str (value_view v) ≡ Some s → whole ≡ after (texts ++ s ∷ []) (all_texts (items_view (drop (i + 1) vs)))
  texts_more s e = so ∙ rw (here, e) (after_one texts s (all_texts (items_view (drop (i + 1) vs))))

  pub texts_refused : as_str (value_view v) ≡ None → whole ≡ None
  texts_refused e = so ∙ rw (here, e) refl
