-- The spots of parts of packages: each part on each side.
use Rattle.std.specs.Prelude.{List, [], ◌∷◌, Bool, ◌&&◌, ◌||◌, nat_eq, filter, flat_map}
use Rattle.std.specs.List.{list_any}
use Rattle.cargo_workspaces.specs.Workspaces.{Text}
use Rattle.feature_labels.specs.Names.{LabelName}
use Rattle.feature_labels.specs.Names.LabelName.{base, named, optional}
use Rattle.plan_names.specs.Names.{NamedText, PartText, dependency, feature, whole}
use Rattle.plan_rows.specs.declared.side.Side.{Side}
use Rattle.plan_rows.specs.declared.side.Side.TheVariants.{Host, Target}
use Rattle.cargo_plans.specs.plan_starts.PackageVisits.{is_on}
use Rattle.plan_whys.specs.Steps.{SpotText}
use Rattle.feats_policies.specs.checks.Builds.{BuildText, built_for, is_built_on, is_every}

abbrev pub label_of_part : PartText → LabelName
label_of_part whole = base
label_of_part (feature name) = named name
label_of_part (dependency name) = optional name

-- A part on a side.
abbrev pub spot_on : Side → NamedText → SpotText
spot_on side n = record { side = side; number = n.owner; label = label_of_part n.part }

abbrev pub on_both_sides : NamedText → List SpotText
on_both_sides n = spot_on Target n ∷ spot_on Host n ∷ []

-- Whether a spot is on.
abbrev pub is_spot_on : BuildText → SpotText → Bool
is_spot_on b s = is_on b.plan.on s.side s.number s.label

-- Whether a spot counts: it is on, and its package is built with the features of its side. For every choice all that is on counts.
abbrev pub counts : BuildText → SpotText → Bool
counts b s = is_spot_on b s && (is_every b.judged || is_built_on b s.side s.number)

-- Whether a spot is on, and its package is built for this platform with the features of its side.
abbrev pub is_spot_on_for : BuildText → Text → SpotText → Bool
is_spot_on_for b triple s = is_spot_on b s && list_any (nat_eq s.number) (built_for b triple s.side)

-- The spots of parts that count, part by part; and those that are on for a platform.
abbrev pub spots_on : BuildText → List NamedText → List SpotText
spots_on b parts = filter (counts b) (flat_map on_both_sides parts)

abbrev pub spots_on_for : BuildText → Text → List NamedText → List SpotText
spots_on_for b triple parts = filter (is_spot_on_for b triple) (flat_map on_both_sides parts)
