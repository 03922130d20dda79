-- The values that lines contain.
use Rattle.std.specs.Prelude.{List, map}
use Rattle.cargo_workspaces.specs.Workspaces.{PackageText}
use Rattle.cargo_workspaces.specs.Views.{package_text, texts}
use Rattle.feats_duplicate_lines.specs.Shown.{ShownText, version, in_place, alone, joined, refused}
use Rattle.feats_duplicate_lines.specs.declared.shown.Dependent.{Dependent}
use Rattle.feats_duplicate_lines.specs.declared.shown.Shown.{Shown}
use Rattle.feats_duplicate_lines.specs.declared.shown.Shown.TheVariants as shown

abbrev pub dependents_text : List Dependent → List PackageText
dependents_text = map (λ d. package_text d.«package».now)

abbrev pub shown_text : Shown → ShownText
shown_text (shown.Version p dependents) = version (package_text p.now) (dependents_text dependents.items)
shown_text (shown.InPlace p place features) = in_place (package_text p.now) place.now (texts features.now)
shown_text (shown.Alone p place member features) = alone (package_text p.now) place.now (package_text member.now) (texts features.now)
shown_text (shown.Joined p place features agrees) = joined (package_text p.now) place.now (texts features.items) agrees
shown_text (shown.NotPlanned member message) = refused (package_text member.now) message.now
