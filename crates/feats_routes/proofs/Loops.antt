-- Rows, objects and texts, one after the other.
use Rattle.std.proofs.Common.{◌≡◌, ◌∙◌, ℕ, ◌+◌, ◌<◌, List, [], ◌∷◌, ◌++◌, Some, Option, drop, length, get_or, ap, ap₂, sym, append_assoc, cond, Result, Ok, Err, OnOk, is_ok}
use Rattle.std.proofs.lemmas.List.{drop_more}
use Rattle.json.specs.Token.{Token}
use Rattle.feats_lines.specs.parts.Tables.{RowText}
use Rattle.feats_routes.specs.Lines.{row_of, rows_from}
use Rattle.feats_routes.specs.Objects.{step_tokens, steps_from}
use Rattle.feats_routes.specs.Shown.{ShownText}

-- one more row
pub rows_more : (s : ShownText) (nodes : List ℕ) (i : ℕ) (before : Option ℕ) (all so_far new : List RowText) (row : RowText) → i < length nodes → all ≡ so_far ++ rows_from s before (drop i nodes)
    → new ≡ so_far ++ row ∷ [] → row ≡ row_of s before (get_or nodes i 0) → all ≡ new ++ rows_from s (Some (get_or nodes i 0)) (drop (i + 1) nodes)
rows_more s nodes i before all so_far new row within so grown is =
    let rest = rows_from s (Some (get_or nodes i 0)) (drop (i + 1) nodes) in
    so ∙ ap (λ ys. so_far ++ rows_from s before ys) (drop_more nodes i 0 within)
    ∙ sym (append_assoc so_far (row_of s before (get_or nodes i 0) ∷ []) rest)
    ∙ ap (λ z. z ++ rest) (sym (grown ∙ ap (λ (r : RowText). so_far ++ r ∷ []) is))

-- one more object
pub steps_more : (s : ShownText) (nodes : List ℕ) (i : ℕ) (before : Option ℕ) (all so_far new : List Token) → i < length nodes → all ≡ so_far ++ steps_from s before (drop i nodes)
    → new ≡ so_far ++ step_tokens s before (get_or nodes i 0) → all ≡ new ++ steps_from s (Some (get_or nodes i 0)) (drop (i + 1) nodes)
steps_more s nodes i before all so_far new within so grown =
    let rest = steps_from s (Some (get_or nodes i 0)) (drop (i + 1) nodes) in
    so ∙ ap (λ ys. so_far ++ steps_from s before ys) (drop_more nodes i 0 within)
    ∙ sym (append_assoc so_far (step_tokens s before (get_or nodes i 0)) rest)
    ∙ ap (λ z. z ++ rest) (sym grown)

-- two texts were appended, the second by `push_str`
pub both_pushed : {T E : Type 0} (r : Result T E) (new old before first part second : List ℕ) → new ≡ cond (is_ok r) (old ++ part) old → old ≡ before ++ first → part ≡ second
    → OnOk r (new ≡ before ++ (first ++ second))
both_pushed (Ok x) new old before first part second h is same = h ∙ ap₂ (λ (a b : List ℕ). a ++ b) is same ∙ append_assoc before first second
both_pushed (Err e) new old before first part second h is same = tt
