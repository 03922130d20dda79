-- The required dependencies of a build that a document has no package for. `host` is which platform specs hold on the host, and `targets`
-- has the same for each target.
use Rattle.std.specs.Prelude.{ℕ, List, [], ◌++◌, Bool, true, false, not, ◌&&◌, ◌||◌, is_some, codes, filter, flat_map, map, slice_get}
use Rattle.std.specs.Option.{option_map_or}
use Rattle.cargo_workspaces.specs.Workspaces.{DeclarationText, PackageText, Text, WorkspaceText}
use Rattle.cargo_workspaces.specs.declared.package.Kind.{Kind}
use Rattle.cargo_workspaces.specs.declared.package.Kind.TheVariants.{Build, Development, Normal}
use Rattle.plan_rows.specs.Steps.{admits, admits_any}
use Rattle.shown_texts.specs.Shown.{escaped}

-- Whether a declaration of a kind is looked at: those for tests, or the others.
abbrev pub counts : Bool → Kind → Bool
counts for_tests Normal = not for_tests
counts for_tests Build = not for_tests
counts for_tests Development = for_tests

-- Whether a declaration is required on a platform of the build, but leads to no package.
abbrev pub is_lost : (Text → Bool) → List (Text → Bool) → Bool → DeclarationText → Bool
is_lost host targets for_tests d =
    counts for_tests d.kind && not d.optional && not (is_some d.leads_to)
    && (admits host d.platform || admits_any targets d.platform)

abbrev pub line_about : Text → Text → Text
line_about id name =
    codes "`" ++ (escaped name ++ (codes "`, a required dependency of "
    ++ (escaped id ++ codes ", leads to no package of the document: was it made with --filter-platform, or has the dependency no library?")))

-- The lines of the package `id` with these declarations.
abbrev pub lines_of : (Text → Bool) → List (Text → Bool) → Bool → Text → List DeclarationText → List Text
lines_of host targets for_tests id ds = map (λ d. line_about id d.name) (filter (is_lost host targets for_tests) ds)

abbrev pub package_lines : (Text → Bool) → List (Text → Bool) → Bool → PackageText → List Text
package_lines host targets for_tests p = lines_of host targets for_tests p.id p.declarations

-- The lines about tests of package `n`.
abbrev pub member_lines : (Text → Bool) → List (Text → Bool) → List PackageText → ℕ → List Text
member_lines host targets packages n = option_map_or (package_lines host targets true) (slice_get packages n) []

-- THE LINES: those of all packages, and those about tests of the members.
abbrev pub lost_lines : (Text → Bool) → List (Text → Bool) → WorkspaceText → List Text
lost_lines host targets w = flat_map (package_lines host targets false) w.packages ++ flat_map (member_lines host targets w.packages) w.members
