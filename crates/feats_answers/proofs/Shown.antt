-- The texts that are shown of items, one item after the other.
use Rattle.std.proofs.Common.{◌≡◌, ◌∙◌, ℕ, ◌<◌, ◌+◌, List, [], ◌∷◌, ◌++◌, sym, subst, ap, refl, map, take, length, get_or, append_assoc, append-nil}
use Rattle.std.proofs.lemmas.List.{map-append, take_more}
use Rattle.cargo_workspaces.specs.Workspaces.{Text}
use Rattle.feats_answers.specs.Gathered.{AreShown}

-- the texts of one more item
module _ {X : Type 0} (IsShown : X → List Text → Type 0) where
  shown_push : (xs : List X) (x : X) (shown here : List Text) → AreShown IsShown xs shown → IsShown x here → AreShown IsShown (xs ++ x ∷ []) (shown ++ here)
  shown_push [] x shown here none is =
      (here, [], is, refl, ap (λ s. s ++ here) none ∙ sym (append-nil here))
  shown_push (y ∷ ys) x shown here (first, more, is_first, are_more, all) is =
      (first, more ++ here, is_first, shown_push ys x more here are_more is, ap (λ s. s ++ here) all ∙ append_assoc first more here)

  pub shown_more : {Y : Type 0} (view : Y → X) (items : List Y) (i : ℕ) (y : Y) (shown here new : List Text) → i < length items
      → AreShown IsShown (map view (take i items)) shown → IsShown (view (get_or items i y)) here → new ≡ shown ++ here → AreShown IsShown (map view (take (i + 1) items)) new
  shown_more view items i y shown here new within are one grown =
      let x = get_or items i y in
      let there : take i items ++ x ∷ [] ≡ take (i + 1) items = sym (take_more items i y within) in
      let viewed : map view (take i items) ++ view x ∷ [] ≡ map view (take (i + 1) items) = sym (map-append view (take i items) (x ∷ [])) ∙ ap (map view) there in
      subst (λ xs. AreShown IsShown xs new) viewed (subst (AreShown IsShown (map view (take i items) ++ view x ∷ [])) (sym grown) (shown_push (map view (take i items)) (view x) shown here are one))
