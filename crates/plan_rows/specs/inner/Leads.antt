-- The dependencies of declarations whose entries are known.
use Rattle.std.specs.Prelude.{ℕ, List, [], ◌∷◌, Bool, Option, None, Some}
use Rattle.cargo_workspaces.specs.Workspaces.{DeclarationText}
use Rattle.plan_rows.specs.Steps.{dependency_as}
use Rattle.plan_rows.specs.Tables.{Dependency}

abbrev pub dependencies_at : Bool → List DeclarationText → List (Option ℕ) → List Dependency
dependencies_at plain [] leads = []
dependencies_at plain (d ∷ ds) [] = []
dependencies_at plain (d ∷ ds) (None ∷ leads) = dependencies_at plain ds leads
dependencies_at plain (d ∷ ds) (Some to ∷ leads) = dependency_as plain d to ∷ dependencies_at plain ds leads
