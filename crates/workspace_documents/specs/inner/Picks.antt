-- The search among used packages, one package at a time.
use Rattle.std.specs.Prelude.{◌&&◌, Bool, true, false}
use Rattle.workspace_documents.specs.declared.dependencies.Found.{Found}
use Rattle.workspace_documents.specs.declared.dependencies.Found.TheVariants as found
use Rattle.workspace_documents.specs.declared.dependencies.Asked.{Asked}
use Rattle.workspace_documents.specs.declared.dependencies.Asked.TheVariants as asked
use Rattle.cargo_json.specs.Faults.{Text}
use Rattle.workspace_documents.specs.Packages.{DeclarationText, PackageText}
use Rattle.workspace_documents.specs.Nodes.{DepText}
use Rattle.workspace_documents.specs.Dependencies.{FoundPackage, nothing, one, several, fits, is_used, is_admitted, is_as_named}
use Rattle.workspace_documents.specs.Views.{package_view}

-- whether a used package passes the further condition `Asked`
abbrev pub answers : Asked → DeclarationText → DepText → Bool
answers asked.Use d dep = is_used d dep
answers asked.Version d dep = is_admitted d dep
answers asked.Both d dep = is_used d dep && is_admitted d dep
answers asked.Name d dep = is_used d dep && is_as_named d dep

-- whether the used package fits the declaration of package `id`, and the further condition holds
unfoldable pub meets : Asked → Text → DeclarationText → DepText → Bool
meets ask id d dep = fits id d dep && answers ask d dep

abbrev pub found_view : Found → FoundPackage
found_view found.Nothing = nothing
found_view (found.One p) = one (package_view p.now)
found_view found.Several = several

-- the result with one more package
abbrev pub with_one : FoundPackage → PackageText → FoundPackage
with_one nothing p = one p
with_one (one q) p = several
with_one several p = several

-- the result with one more package, if the package counts
abbrev pub and_one : Bool → FoundPackage → PackageText → FoundPackage
and_one true found p = with_one found p
and_one false found p = found
