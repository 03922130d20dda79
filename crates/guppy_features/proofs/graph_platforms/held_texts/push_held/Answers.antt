use Rattle.std.proofs.Common.{◌≡◌, ◌++◌, ◌∷◌, [], ◌∙◌, ℕ, List, Bool, true, false, map, ap, sym, subst}
use Rattle.std.specs.Borrow.{Bor}
use Rattle.std.proofs.lemmas.List.{map-append, append-nil}
use Rattle.guppy_packages.specs.Rows.{Text}
use Rattle.platform_specs.specs.Truth.{truth_of}
use Rattle.guppy_features.specs.graph_platforms.HeldSpecs.{AreHeld}
use Rattle.guppy_features.proofs.Held.{held_more, one_held}
use Rattle.guppy_features.proofs.graph_platforms.held_texts.push_held.Goals as goal
use Rattle.guppy_features.proofs.graph_platforms.held_texts.push_held.Goals.{then-branch+in_ok-push, else-branch}

abbrev texts_of : List (Bor (List ℕ)) → List Text
texts_of items = map (λ t. t.now) items

-- the list with the text that holds, and without one that doesn't
pushed : (old new : List (Bor (List ℕ))) (text : Bor (List ℕ)) (b : Bool) → b ≡ true → new ≡ old ++ text ∷ [] → texts_of old ++ one_held b text.now ≡ texts_of new
pushed old new text b e is =
    ap (λ z. texts_of old ++ one_held z text.now) e ∙ sym (map-append (λ (t : Bor (List ℕ)). t.now) old (text ∷ [])) ∙ ap texts_of (sym is)

kept : (old new : List (Bor (List ℕ))) (text : Bor (List ℕ)) (b : Bool) → b ≡ false → new ≡ old → texts_of old ++ one_held b text.now ≡ texts_of new
kept old new text b e is = ap (λ z. texts_of old ++ one_held z text.now) e ∙ append-nil (texts_of old) ∙ ap texts_of (sym is)

pub returns-clause-held : goal.returns-clause-held
returns-clause-held c = λ before h.
    let (spec, spells, is) = c.in_ok-holds.ensures.holds in
    let target = c.args.target.now in
    let text = c.args.text in
    let old = c.args.held.now.items in
    let b : Bool = truth_of target spec in
    let more = held_more target before (texts_of old) text.now spec spells h in
    elim c.if-branch.branch [
      | then-branch+in_ok-push w ↦
          subst (λ z. AreHeld target (before ++ text.now ∷ []) z)
          (pushed old c.if-branch.held.items text b (sym is ∙ w.if-branch.true) (ap (λ v. v.items) w.held-is ∙ w.in_ok-push.ensures.items)) more
      | else-branch w ↦
          subst (λ z. AreHeld target (before ++ text.now ∷ []) z)
          (kept old c.if-branch.held.items text b (sym is ∙ w.if-branch.false) (ap (λ v. v.items) w.held-is)) more
    ]
