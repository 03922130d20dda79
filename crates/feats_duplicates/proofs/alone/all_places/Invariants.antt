use Rattle.std.proofs.Common.{◌≡◌, ◌++◌, ◌∷◌, [], ℕ, drop}
use Rattle.cargo_workspaces.specs.Views.{texts}
use Rattle.cargo_workspaces.specs.Workspaces.{Text}
use Rattle.cargo_plans.specs.plan_starts.Lists.{joined_from}
use Rattle.cargo_plans.specs.declared.plan_units.unit.Place.TheVariants.{Target}
use Rattle.feats_duplicates.specs.Alone.{all_places}
use Rattle.feats_duplicates.proofs.alone.all_places.Given as goal

abbrev pub invariant-loop-number : goal.invariant-loop-number
invariant-loop-number l =
    all_places (texts l.names) ≡ l.places.items ++ joined_from (λ (k : ℕ) (name : Text). Target k ∷ []) l.number (texts (drop l.number l.names))
