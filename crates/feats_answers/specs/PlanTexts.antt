-- The text that shows a plan.
use Rattle.std.specs.Prelude.{List, [], ◌∷◌, Option, map, option_map, filter_map, slice_get, unwrap_or, codes}
use Rattle.cargo_workspaces.specs.Workspaces.{Text, PackageText}
use Rattle.feats_lines.specs.Lines.{ShownText, plan_lines}
use Rattle.feats_lines.specs.Objects.{plan_objects}
use Rattle.cargo_plans.specs.plan_units.Units.{UnitText}
use Rattle.cargo_plans.specs.declared.plan_units.unit.Place.{Place}
use Rattle.cargo_plans.specs.declared.plan_units.unit.Place.TheVariants as place
use Rattle.feats_files.specs.Files.{FileText}
use Rattle.feats_words.specs.declared.command_arguments.Format.{Format}
use Rattle.feats_words.specs.declared.command_arguments.Format.TheVariants as format

-- The names of the target platforms: a single one is `target`, and several have their triples.
abbrev pub target_names : List FileText → List Text
target_names [] = codes "target" ∷ []
target_names (f ∷ []) = codes "target" ∷ []
target_names (f ∷ g ∷ more) = map (λ f. f.triple) (f ∷ g ∷ more)

abbrev pub place_name : List Text → Place → Text
place_name names place.Host = codes "host"
place_name names (place.Target k) = unwrap_or (slice_get names k) []

abbrev pub shown_at : List Text → UnitText → PackageText → ShownText
shown_at names u p = record { place = place_name names u.place; described = p; features = u.features }

-- A unit as it is shown. Its number is that of a package.
abbrev pub shown_of : List Text → List PackageText → UnitText → Option ShownText
shown_of names packages u = option_map (shown_at names u) (slice_get packages u.number)

abbrev pub all_shown : List Text → List PackageText → List UnitText → List ShownText
all_shown names packages units = filter_map (shown_of names packages) units

abbrev pub text_in : Format → List PackageText → List ShownText → Text
text_in format.Text packages shown = plan_lines packages shown
text_in format.Json packages shown = plan_objects shown

-- The text of these units, for the target platforms of these files.
abbrev pub text_of_units : Format → List FileText → List PackageText → List UnitText → Text
text_of_units form targets packages units = text_in form packages (all_shown (target_names targets) packages units)
