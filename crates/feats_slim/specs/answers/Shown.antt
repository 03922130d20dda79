-- Edits by which a build is smaller, as they are shown: a line for each.
use Rattle.std.specs.Prelude.{ℕ, List, [], ◌∷◌, Option, Some, flat_map, option_map, option_and_then, slice_get}
use Rattle.std.specs.Option.{option_map_or}
use Rattle.cargo_workspaces.specs.Workspaces.{DeclarationText, PackageText, Text}
use Rattle.feats_slim.specs.edits.Orders.{SlimText}
use Rattle.cargo_manifests.specs.Edits.{PlaceText, WithoutText, declaration_at, table_entry}

-- What an edit changes, as it is shown: a declaration of a package, or the entry of the table `[workspace.dependencies]` with a name.
pub data ShownPlaceText : Type 0 where
  declared : PackageText → DeclarationText → ShownPlaceText
  inherited : Text → ShownPlaceText

-- A line: the place, what is taken out there, and the numbers of packages and features that fall away.
pub record ShownText : Type 0 where
  pub place : ShownPlaceText
  pub without : WithoutText
  pub packages : ℕ
  pub features : ℕ

-- The place of declaration `n` of the package; none if there is no such declaration.
abbrev pub declared_in : ℕ → PackageText → Option ShownPlaceText
declared_in n x = option_map (declared x) (slice_get x.declarations n)

abbrev pub place_of : List PackageText → PlaceText → Option ShownPlaceText
place_of packages (declaration_at p n) = option_and_then (declared_in n) (slice_get packages p)
place_of packages (table_entry name) = Some (inherited name)

abbrev pub shown_at : SlimText → ShownPlaceText → ShownText
shown_at s place = record { place = place; without = s.edit.without; packages = s.packages; features = s.features }

abbrev pub shown_if : SlimText → Option ShownPlaceText → List ShownText
shown_if s place = option_map_or (λ place. shown_at s place ∷ []) place []

-- The line of an edit; none if there is no such declaration.
abbrev pub shown_of : List PackageText → SlimText → List ShownText
shown_of packages s = shown_if s (place_of packages s.edit.place)

-- The lines, in the order of the edits.
abbrev pub all_shown : List PackageText → List SlimText → List ShownText
all_shown packages slims = flat_map (shown_of packages) slims
