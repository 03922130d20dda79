-- Filters that count: a run of questions, and the count behind a reference.
use Rattle.std.proofs.Common.{◌≡◌, ◌∙◌, ◌+◌, ◌-◌, ◌^◌, ◌≤◌, ℕ, suc, Bool, List, [], ◌∷◌, length, sym, ap, subst, arith}
use Rattle.std.specs.Prelude.{min, IfOk, IfErr, Result, Ok, Err}
use Rattle.std.proofs.Math.Nat.{min-eq_left}
use Rattle.std.proofs.lemmas.List.{length-map}
use Rattle.guppy_features.specs.guppy_packages.Rows.{Text}
use Rattle.guppy_features.specs.feature_labels.Names.{LabelName}
use Rattle.guppy_features.specs.feature_graph.Filters.{Ran, Run, SelectsByFilter}
use Rattle.guppy_features.specs.feature_graph.Values.{Graph}
use Rattle.uses.specs.Answers.{CountsOn, CountsWorkspace}

-- one before the others
counts_first : (old more mid new : ℕ) → mid ≡ min (old + 1) (2 ^ 64 - 1) → CountsOn mid more new → CountsOn old (suc more) new
counts_first old more mid new is rest small =
    let fits : old + 1 ≤ 2 ^ 64 - 1 = omega (arith, small) in
    let mid_is : mid ≡ old + 1 = is ∙ min-eq_left fits in
    let e : new ≡ mid + more = rest (omega (arith, small, mid_is)) in
    omega (arith, e, mid_is)

-- each question keeps the name, and counts one
module _ {S N : Type 0} (gives : S → Graph → Text × LabelName → Bool → S → Type 0) (name : S → N) (asked : S → ℕ)
    (step : (s : S) (g : Graph) (feature : Text × LabelName) (answer : Bool) (t : S) → gives s g feature answer t → (name t ≡ name s) × (asked t ≡ min (asked s + 1) (2 ^ 64 - 1))) where
  counts_ran : (g : Graph) (run : Run) (s t : S) → Ran gives g s run t → (name t ≡ name s) × CountsOn (asked s) (length run) (asked t)
  counts_ran g [] s t same = (ap name (sym same), λ small. let e : asked t ≡ asked s = ap asked (sym same) in omega (arith, e))
  counts_ran g (x ∷ run) s t (m, given, ran) =
      let one = step s g x.0 x.1 m given in
      let rest = counts_ran g run m t ran in
      (rest.0 ∙ one.0, counts_first (asked s) (length run) (asked m) (asked t) one.1 rest.1)

  pub keeps_name : {A E : Type 0} (initials : A → List Bool) (g : Graph) (s t : S) (r : Result A E) → IfOk r (λ query. SelectsByFilter gives g s t (initials query)) → IfErr r (λ e. t ≡ s) → name t ≡ name s
  keeps_name initials g s t (Ok query) sel same = (counts_ran g sel.run s t sel.steps).0
  keeps_name initials g s t (Err e) sel same = ap name same

  pub counts_workspace : (g : Graph) (s t : S) (initials : List Bool) → SelectsByFilter gives g s t initials → CountsWorkspace g (asked s) (asked t)
  counts_workspace g s t initials sel =
      subst (λ n. CountsOn (asked s) n (asked t)) (sym (length-map sel.run (λ x. x.0)) ∙ ap length sel.each) (counts_ran g sel.run s t sel.steps).1
