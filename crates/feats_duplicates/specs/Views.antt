-- The values that Rust's types contain.
use Rattle.std.specs.Prelude.{map, string_bytes}
use Rattle.cargo_workspaces.specs.Views.{texts}
use Rattle.cargo_plans.specs.plan_units.UnitViews.{unit_text}
use Rattle.feats_duplicates.specs.Alone.{AloneText, MemberUnitText}
use Rattle.feats_duplicates.specs.Built.{PlacedText}
use Rattle.feats_duplicates.specs.MemberPlans.{MemberPlanText, OutcomeText, built, not_planned}
use Rattle.feats_duplicates.specs.Places.{PlacesText}
use Rattle.feats_duplicates.specs.Versions.{VersionText, VersionsText}
use Rattle.feats_duplicates.specs.declared.alone.Alone.{Alone}
use Rattle.feats_duplicates.specs.declared.member_plans.MemberPlan.{MemberPlan}
use Rattle.feats_duplicates.specs.declared.member_units.MemberUnit.{MemberUnit}
use Rattle.feats_duplicates.specs.declared.outcomes.Outcome.{Outcome}
use Rattle.feats_duplicates.specs.declared.outcomes.Outcome.TheVariants as outcome
use Rattle.feats_duplicates.specs.declared.placed.PlaceFeatures.{PlaceFeatures}
use Rattle.feats_duplicates.specs.declared.places.Places.{Places}
use Rattle.feats_duplicates.specs.declared.versions.Version.{Version}
use Rattle.feats_duplicates.specs.declared.versions.Versions.{Versions}

abbrev pub version_text : Version → VersionText
version_text v = record { number = v.«package»; dependents = v.dependents.items }

abbrev pub versions_text : Versions → VersionsText
versions_text v = record { name = v.name.now; versions = map version_text v.versions.items }

abbrev pub placed_text : PlaceFeatures → PlacedText
placed_text p = record { place = p.place; features = texts p.features.now }

abbrev pub places_text : Places → PlacesText
places_text p = record { number = p.«package»; places = map placed_text p.places.items }

abbrev pub outcome_text : Outcome → OutcomeText
outcome_text (outcome.Built units) = built (map unit_text units.items)
outcome_text (outcome.NotPlanned message) = not_planned (string_bytes message)

abbrev pub member_plan_text : MemberPlan → MemberPlanText
member_plan_text p = record { member = p.member; outcome = outcome_text p.outcome }

abbrev pub member_unit_text : MemberUnit → MemberUnitText
member_unit_text r = record { member = r.member; unit = unit_text r.unit.now }

abbrev pub alone_text : Alone → AloneText
alone_text a = record { number = a.«package»; place = a.place; units = map member_unit_text a.units.items }
