use Rattle.std.proofs.Common.{◌≡◌, ◌∙◌, ◌++◌, ◌∷◌, [], ◌+◌, ◌<◌, ℕ, List, add-one, ap, append_assoc, drop, drop-cons, get_or, length, map, refl, sym}
use Rattle.std.specs.Prelude.{Option, Some, None, filter_map}
use Rattle.std.specs.List.{cons_option}
use Rattle.std.proofs.lemmas.List.{map-append}
use Rattle.cargo_workspaces.specs.Views.{texts}
use Rattle.cargo_workspaces.specs.WorkspaceView.{workspace_text}
use Rattle.cargo_plans.specs.plan_units.UnitViews.{unit_text}
use Rattle.feats_lines.specs.Views.{shown_text}
use Rattle.feats_answers.specs.PlanTexts as spec
use Rattle.feats_answers.proofs.plan_texts.all_shown.Goals as goal
use Rattle.feats_answers.proofs.plan_texts.all_shown.Goals.{in-Some+in_ok-push, in_default}

module _ {X Y Z : Type 0} (view : X → Y) (f : Y → Option Z) (items : List X) (i : ℕ) (x : X) (before : List Z) (within : i < length items) (is : x ≡ get_or items i x) where
  abbrev rest : List Z
  rest = filter_map f (map view (drop (i + 1) items))

  next : before ++ filter_map f (map view (drop i items)) ≡ before ++ cons_option (f (view x)) rest
  next =
      let at : drop i items ≡ get_or items i x ∷ drop (i + 1) items = rw (add-one, drop-cons items i x within) refl in
      ap (λ xs. before ++ filter_map f (map view xs)) at ∙ ap (λ y. before ++ cons_option (f (view y)) rest) (sym is)

  -- an item of which something is shown, and one of which nothing is shown
  with_one : (z : Z) → f (view x) ≡ Some z → before ++ filter_map f (map view (drop i items)) ≡ (before ++ z ∷ []) ++ rest
  with_one z e = next ∙ ap (λ o. before ++ cons_option o rest) e ∙ sym (append_assoc before (z ∷ []) rest)

  without : f (view x) ≡ None → before ++ filter_map f (map view (drop i items)) ≡ before ++ rest
  without e = next ∙ ap (λ o. before ++ cons_option o rest) e

pub loop-unit-preserved : goal.loop-unit-preserved
loop-unit-preserved c =
    let f = spec.shown_of (texts c.args.names.now) (workspace_text c.args.workspace.now).packages in
    let units = c.args.units.now in
    let k = c.loop-unit.unit-index in
    let old = map shown_text c.loop-unit.shown.items in
    let after = filter_map f (map unit_text (drop (k + 1) units)) in
    elim c.match-shown_of.branch [
      | in-Some+in_ok-push w ↦
          c.loop-unit.invariant
          ∙ with_one unit_text f units k c.unit-item.result old c.loop-unit-test.true c.unit-item.is (shown_text w.in-Some.one) (sym w.in-Some.ensures)
          ∙ ap (λ z. z ++ after) (sym (map-append shown_text c.loop-unit.shown.items (w.in-Some.one ∷ [])))
          ∙ ap (λ z. map shown_text z ++ after) (sym w.in_ok-push.ensures.items)
          ∙ ap (λ v. map shown_text v.items ++ after) (sym w.shown-is)
      | in_default w ↦
          c.loop-unit.invariant
          ∙ without unit_text f units k c.unit-item.result old c.loop-unit-test.true c.unit-item.is (sym w.in_default.ensures)
          ∙ ap (λ v. map shown_text v.items ++ after) (sym w.shown-is)
    ]
