-- The declared texts, one by one.
use Rattle.std.proofs.Common.{◌≡◌, ◌∙◌, sym, ap, refl, ℕ, ◌+◌, ◌<◌, List, ◌∷◌, Bool, true, false, cond, ◌||◌, map, drop, length, get_or, add-one, drop-cons}
use Rattle.std.specs.Ordering.{is_eq}
use Rattle.std.specs.Str.{bytes_eq}
use Rattle.std.proofs.lemmas.Map.Text.{is_eq-slice_cmp}
use Rattle.cargo_workspaces.specs.Workspaces.{Text, text_cmp}
use Rattle.plan_rows.specs.platforms.HeldSpecs.{is_declared}
use Rattle.plan_rows.specs.platforms.Views.{declared_text}
use Rattle.plan_rows.specs.declared.platforms.declarations.DeclaredSpec.{DeclaredSpec}

-- a text that is held, is this one or is a later one
regrouped : (b old rest : Bool) → (old || (b || rest)) ≡ (cond b true old || rest)
regrouped true true rest = refl
regrouped true false rest = refl
regrouped false true rest = refl
regrouped false false rest = refl

-- one more text
pub every_more : (specs : List DeclaredSpec) (i : ℕ) (s d : DeclaredSpec) (all : Bool) (old new : Text → Bool) (text : Text) → i < length specs → s ≡ get_or specs i d
    → (all ≡ (old text || is_declared (map declared_text (drop i specs)) text)) → new text ≡ cond (is_eq (text_cmp s.text.now text)) true (old text)
    → all ≡ (new text || is_declared (map declared_text (drop (i + 1) specs)) text)
every_more specs i s d all old new text within is so grown =
    let rest : Bool = is_declared (map declared_text (drop (i + 1) specs)) text in
    let at : drop i specs ≡ get_or specs i d ∷ drop (i + 1) specs = rw (add-one, drop-cons specs i d within) refl in
    so ∙ ap (λ ds. old text || is_declared (map declared_text ds) text) at
    ∙ ap (λ (x : DeclaredSpec). old text || (bytes_eq x.text.now text || rest)) (sym is)
    ∙ regrouped (bytes_eq s.text.now text) (old text) rest
    ∙ ap (λ b. cond b true (old text) || rest) (sym (is_eq-slice_cmp s.text.now text))
    ∙ ap (λ b. b || rest) (sym grown)
