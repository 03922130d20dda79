-- The platform specs that the declarations of a workspace name.
use Rattle.std.specs.Prelude.{ℕ, ◌+◌, List, [], ◌∷◌, ◌++◌, map, filter_map}
use Rattle.cargo_workspaces.specs.Workspaces.{Text, DeclarationText, PackageText}

-- A spec, and the number of the package that names it.
pub record DeclaredText : Type 0 where
  pub owner : ℕ
  pub text : Text

abbrev pub declared_by : ℕ → Text → DeclaredText
declared_by p text = record { owner = p; text = text }

-- The specs of a package's declarations.
abbrev pub specs_of : ℕ → List DeclarationText → List DeclaredText
specs_of p ds = map (declared_by p) (filter_map (λ d. d.platform) ds)

-- The specs of packages that are numbered from `p` on.
abbrev pub specs_from : ℕ → List PackageText → List DeclaredText
specs_from p [] = []
specs_from p (x ∷ xs) = specs_of p x.declarations ++ specs_from (p + 1) xs

abbrev pub declared_specs : List PackageText → List DeclaredText
declared_specs packages = specs_from 0 packages
