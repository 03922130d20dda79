-- Why parts and features come: the last step of each `why`.
use Rattle.std.specs.Prelude.{◌≡◌, ◌-◌, List, [], ◌∷◌, Option, Some, None, Bool, true, drop, flat_map, if◌then◌else◌, length, map, nat_eq, slice_get, take}
use Rattle.std.specs.List.{AllZip, ends_with}
use Rattle.std.specs.Option.{option_map_or}
use Rattle.cargo_plans.specs.Plans.{AfterWords, settings_by}
use Rattle.cargo_workspaces.specs.Workspaces.{Text}
use Rattle.feature_labels.specs.Names.{LabelName}
use Rattle.feature_labels.specs.Names.LabelName.{base, named}
use Rattle.feats_diff.specs.changes.Changes.{ChangeText}
use Rattle.feats_diff.specs.changes.Differences.{DifferencesText}
use Rattle.feats_diff.specs.changes.Parts.{PartText}
use Rattle.plan_rows.specs.Steps.{side_of}
use Rattle.plan_rows.specs.declared.side.Side.{Side}
use Rattle.plan_rows.specs.declared.side.Side.TheVariants.{Target}
use Rattle.cargo_plans.specs.plan_units.Units.{UnitText}
use Rattle.cargo_plans.specs.declared.plan_units.unit.Place.{Place}
use Rattle.cargo_plans.specs.declared.plan_units.unit.Place.TheVariants as place
use Rattle.plan_whys.specs.Steps.{SpotText, WhyText}
use Rattle.plan_whys.specs.Whys.{Answers}
use Rattle.feats_why.specs.Lines.{why_lines}
use Rattle.feats_why.specs.Settings.{settings_of}
use Rattle.feats.specs.comparisons.differences.Builds.{BuildText}

-- The side whose features a place has.
abbrev pub side_at : Bool → Place → Side
side_at split place.Host = side_of split true
side_at split (place.Target k) = Target

abbrev pub unit_spot : Bool → LabelName → UnitText → SpotText
unit_spot split label u = record { side = side_at split u.place; number = u.number; label = label }

-- The spot of a label of a part, which is a unit of the plan.
abbrev pub spot_of : BuildText → PartText → LabelName → SpotText
spot_of b p label = option_map_or (unit_spot b.words.selection.split label) (slice_get b.plan.units p.unit) (record { side = Target; number = 0; label = label })

abbrev pub part_spots : BuildText → List PartText → List SpotText
part_spots b parts = map (λ p. spot_of b p base) parts

-- The features that come in a part.
abbrev pub feature_spots : BuildText → ChangeText → List SpotText
feature_spots b c = map (λ name. spot_of b c.new (named name)) c.comes

-- A line without the line feed at its end.
abbrev pub without_feed : Text → Text
without_feed line = if ends_with nat_eq line (10 ∷ []) then take (length line - 1) line else line

-- The last of the steps that were found, as a list; an empty list if the part is off.
abbrev pub last_of : Option (List WhyText) → List WhyText
last_of None = []
last_of (Some steps) = drop (length steps - 1) steps

-- The line of the last step of an answer of `why`, as `why` shows it; the empty text if the part is off.
abbrev pub last_found : BuildText → Option (List WhyText) → Text
last_found b found = without_feed (why_lines b.workspace.packages (settings_of b.words) (last_of found))

-- For each of the spots, the last step of why it is on.
pub record AreWhys (b : BuildText) (spots : List SpotText) (whys : List Text) : Type 0 where
  pub founds : List (Option (List WhyText))
  pub are_found : AfterWords b.workspace b.words (λ chosen. AllZip (Answers b.workspace (settings_by b.words chosen) b.plan.on) spots founds)
  pub are_whys : whys ≡ map (last_found b) founds

-- The last steps of each `why`: of the parts that come, of the features that come in parts whose version or source changes, and of those
-- that come in other parts.
pub record WhysText : Type 0 where
  pub parts : List Text
  pub moved : List Text
  pub kept : List Text

-- The last steps of these differences.
pub record AreAllWhys (b : BuildText) (d : DifferencesText) (whys : WhysText) : Type 0 where
  pub are_parts : AreWhys b (part_spots b d.comes) whys.parts
  pub are_moved : AreWhys b (flat_map (feature_spots b) d.moved) whys.moved
  pub are_kept : AreWhys b (flat_map (feature_spots b) d.kept) whys.kept
