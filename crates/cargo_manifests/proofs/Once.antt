-- Texts that are listed once each.
use Rattle.std.proofs.Common.{◌≡◌, ◌∙◌, sym, ap, refl, List, [], ◌∷◌, ◌++◌, Bool, true, false, cond}
use Rattle.std.specs.Prelude.{◌||◌}
use Rattle.std.specs.Borrow.{Bor}
use Rattle.std.specs.Cmp.Lexicographic.{nat_list_eq_equiv}
use Rattle.std.specs.List.{list_any}
use Rattle.std.specs.Ordering.{is_eq}
use Rattle.std.specs.Str.{bytes_eq}
use Rattle.std.proofs.lemmas.List.{map-append}
use Rattle.std.proofs.lemmas.List.Folds.{list_any-append}
use Rattle.std.proofs.lemmas.Map.Text.{is_eq-slice_cmp}
use Rattle.cargo_workspaces.specs.Views.{texts}
use Rattle.cargo_workspaces.specs.Workspaces.{Text, text_cmp}

either : (a b : Bool) → cond a true b ≡ (b || (a || false))
either true true = refl
either true false = refl
either false true = refl
either false false = refl

-- what a set has after one more text
pub seen_more : (listed more : List (Bor Text)) (x q : Bor Text) (old new : Bool) → new ≡ cond (is_eq (text_cmp x.now q.now)) true old → old ≡ list_any (bytes_eq q.now) (texts listed) → more ≡ listed ++ x ∷ []
    → new ≡ list_any (bytes_eq q.now) (texts more)
seen_more listed more x q old new grown was pushed =
    grown
    ∙ rw (is_eq-slice_cmp x.now q.now, nat_list_eq_equiv.symm x.now q.now, was) (either (bytes_eq q.now x.now) (list_any (bytes_eq q.now) (texts listed)))
    ∙ sym (ap (λ ts. list_any (bytes_eq q.now) (texts ts)) pushed ∙ ap (list_any (bytes_eq q.now)) (map-append (λ t. t.now) listed (x ∷ [])) ∙ list_any-append (bytes_eq q.now) (texts listed) (x.now ∷ []))
