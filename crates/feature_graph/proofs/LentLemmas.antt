-- Runs of a `&mut` of a visitor or of a filter, as runs of what is behind it.
use Rattle.std.proofs.Common.{◌≡◌, ◌∙◌, refl, sym, ap, Bool, List, [], ◌∷◌}
use Rattle.std.specs.Borrow.{MutBor}
use Rattle.guppy_packages.specs.Rows.{Text}
use Rattle.feature_labels.specs.Names.{LabelName}
use Rattle.walk_engine.specs.Walks.{Call, GoesAlong}
use Rattle.feature_graph.specs.Filters.{Ran, Run}
use Rattle.feature_graph.specs.Lent.{lent_accept, lent_visit}
use Rattle.feature_graph.specs.LinkValues.{Link}
use Rattle.feature_graph.specs.Values.{Graph, Query}
use Rattle.feature_graph.specs.Visits.{shown}
use Rattle.feature_graph.proofs.Visits.{goes_along}

pub lent_along : {V : Type 0} (gives : V → Query → Link → Bool → V → Type 0) (q : Query) (s t : MutBor V) (run : List Call) → GoesAlong (shown (lent_visit gives) q) s run t
    → (t.ghost_name ≡ s.ghost_name) × GoesAlong (shown gives q) s.now run t.now
lent_along gives q s t run along =
    goes_along (λ p. p.ghost_name ≡ s.ghost_name) (λ p. p.now) (shown (lent_visit gives) q) (shown gives q) (λ p e h answer r same step. (step.0 ∙ same, step.1)) s run t refl along

pub lent_ran : {F : Type 0} (gives : F → Graph → Text × LabelName → Bool → F → Type 0) (g : Graph) (s t : MutBor F) (run : Run) → Ran (lent_accept gives) g s run t
    → (t.ghost_name ≡ s.ghost_name) × Ran gives g s.now run t.now
lent_ran gives g s t [] same = (ap (λ p. p.ghost_name) (sym same), ap (λ p. p.now) same)
lent_ran gives g s t (x ∷ run) (m, step, ran) =
    let rest = lent_ran gives g m t run ran in
    (rest.0 ∙ step.0, (m.now, step.1, rest.1))
