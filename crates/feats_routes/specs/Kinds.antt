-- How a unit of a plan depends on another: the kind of a declaration that counts.
use Rattle.std.specs.Prelude.{◌==◌, ℕ, List, Bool, true, false, not, ◌&&◌, ◌||◌, Some, slice_get, unwrap_or, if◌then◌else◌}
use Rattle.std.specs.List.{list_any}
use Rattle.std.specs.Option.{option_map_or}
use Rattle.cargo_workspaces.specs.Workspaces.{Text, DeclarationText, PackageText, both_lead_to, has_script}
use Rattle.cargo_workspaces.specs.declared.package.Kind.{Kind}
use Rattle.cargo_workspaces.specs.declared.package.Kind.TheVariants as kind
use Rattle.cargo_plans.specs.plan_steps.Plans.{PlanText, turned_on}
use Rattle.cargo_plans.specs.plan_units.Units.{UnitText}
use Rattle.cargo_plans.specs.declared.plan_units.unit.Place.{Place}
use Rattle.cargo_plans.specs.declared.plan_units.unit.Place.TheVariants.{Host, Target}
use Rattle.plan_rows.specs.Steps.{admits, is_build, is_macro, side_of}
use Rattle.plan_rows.specs.declared.side.Side.{Side}
use Rattle.plan_rows.specs.declared.side.Side.TheVariants as side
use Rattle.feats_why.specs.Settings.{SettingsText}
use Rattle.feats_routes.specs.Shown.{ShownText}

-- The side whose features a place has.
abbrev pub side_at : Bool → Place → Side
side_at split Host = side_of split true
side_at split (Target k) = side.Target

-- Whether a platform spec holds for a place.
abbrev pub holds_at : SettingsText → Place → Text → Bool
holds_at s Host = s.host
holds_at s (Target k) = unwrap_or (slice_get s.targets k) (λ spec. false)

abbrev pub is_same_place : Place → Place → Bool
is_same_place Host Host = true
is_same_place Host (Target k) = false
is_same_place (Target k) Host = false
is_same_place (Target k) (Target m) = k == m

-- The place to which the declaration of a package in a place leads: the host, if it is for builds or leads to a procedural macro.
abbrev pub place_to : DeclarationText → Bool → Place → Place
place_to d macro place = if is_build d.kind || macro then Host else place

-- The place whose platform decides whether the declaration applies.
abbrev pub place_for : DeclarationText → Place → Place
place_for d place = if is_build d.kind then Host else place

-- Whether the declaration of unit `u` leads to unit `v`, if it counts.
abbrev pub leads : List PackageText → UnitText → UnitText → DeclarationText → Bool
leads packages u v d = both_lead_to (Some v.number) d.leads_to && is_same_place (place_to d (is_macro packages v.number) u.place) v.place

abbrev pub is_required_or_on : Bool → PlanText → UnitText → DeclarationText → Bool
is_required_or_on split plan u d = not d.optional || turned_on plan.on (side_at split u.place) u.number d.name

-- Whether the kind is that for builds, if `build`, or else the normal one.
abbrev pub is_of : Bool → Kind → Bool
is_of build kind.Normal = not build
is_of build kind.Build = build
is_of build kind.Development = false

-- Whether a declaration of unit `u` is of this kind, COUNTS in the plan, and leads to unit `v`. `script` is whether the package of `u` has a build script.
abbrev pub counts : ShownText → Bool → UnitText → UnitText → Bool → DeclarationText → Bool
counts s build u v script d =
    is_of build d.kind
    && leads s.packages u v d
    && is_required_or_on s.settings.split s.plan u d
    && (not build || script)
    && admits (holds_at s.settings (place_for d u.place)) d.platform

-- THE KIND of a link: normal, if a normal declaration counts; else for builds, if one for builds counts; else for development.
abbrev pub kind_by : ShownText → UnitText → UnitText → PackageText → Kind
kind_by s u v p =
    if list_any (counts s false u v (has_script p)) p.declarations then kind.Normal
    else if list_any (counts s true u v (has_script p)) p.declarations then kind.Build
    else kind.Development

abbrev pub kind_between : ShownText → UnitText → UnitText → Kind
kind_between s u v = option_map_or (kind_by s u v) (slice_get s.packages u.number) kind.Normal

-- The kind of the link between two units, by their numbers.
abbrev pub kind_of : ShownText → ℕ → ℕ → Kind
kind_of s from to =
    option_map_or (λ u. option_map_or (kind_between s u) (slice_get s.plan.units to) kind.Normal) (slice_get s.plan.units from) kind.Normal
