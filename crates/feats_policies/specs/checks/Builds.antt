-- A build that a policy is about.
use Rattle.std.specs.Prelude.{ℕ, List, [], ◌∷◌, Bool, true, false, not, map, filter, slice_get, unwrap_or, ◌&&◌, ◌||◌, if◌then◌else◌}
use Rattle.std.specs.List.{list_any}
use Rattle.std.specs.Str.{bytes_eq}
use Rattle.cargo_workspaces.specs.Workspaces.{PackageText, Text}
use Rattle.cargo_plans.specs.built_parts.Built.{is_built}
use Rattle.plan_rows.specs.Steps.{is_host}
use Rattle.plan_rows.specs.declared.side.Side.{Side}
use Rattle.plan_rows.specs.declared.side.Side.TheVariants.{Host, Target}
use Rattle.cargo_plans.specs.plan_steps.Plans.{PlanText}
use Rattle.cargo_plans.specs.plan_units.Units.{UnitText}
use Rattle.cargo_plans.specs.declared.plan_units.unit.Place.{Place}
use Rattle.cargo_plans.specs.declared.plan_units.unit.Place.TheVariants as place
use Rattle.feats_policies.specs.declared.checks.judged.Judged.{Judged}
use Rattle.feats_policies.specs.declared.checks.judged.Judged.TheVariants.{ForEveryChoice, InBuild, WithAll}

-- The packages of the workspace, the numbers of the selected ones, their plan, whether the resolver tells sides apart, and the triples
-- of the host and of the target platforms. The build in the place of every choice is that of the widest words.
pub record BuildText : Type 0 where
  pub packages : List PackageText
  pub selected : List ℕ
  pub plan : PlanText
  pub split : Bool
  pub host : Text
  pub targets : List Text
  pub judged : Judged

-- Whether a build is in the place of every choice.
abbrev pub is_every : Judged → Bool
is_every InBuild = false
is_every WithAll = false
is_every ForEveryChoice = true

-- Whether the triple is that of the host or of a target platform.
abbrev pub is_platform : BuildText → Text → Bool
is_platform b triple = list_any (bytes_eq triple) (b.host ∷ b.targets)

-- The triple of a place.
abbrev pub triple_of : BuildText → Place → Text
triple_of b place.Host = b.host
triple_of b (place.Target k) = unwrap_or (slice_get b.targets k) []

-- Whether what is built for a place has the features of this side. If the resolver doesn't tell sides apart, the host has those of the
-- target side.
abbrev pub has_side : Bool → Place → Side → Bool
has_side split place.Host side = if split then is_host side else not (is_host side)
has_side split (place.Target k) side = not (is_host side)

-- Whether a unit is built for this platform, with the features of this side.
abbrev pub is_built_for : BuildText → Text → Side → UnitText → Bool
is_built_for b triple side u = has_side b.split u.place side && bytes_eq triple (triple_of b u.place)

-- The packages that are built for a platform with the features of a side.
abbrev pub built_for : BuildText → Text → Side → List ℕ
built_for b triple side = map (λ u. u.number) (filter (is_built_for b triple side) b.plan.units)

-- Whether a package is built with the features of a side, and whether it is built at all.
abbrev pub is_built_on : BuildText → Side → ℕ → Bool
is_built_on b side p = is_built b.split b.plan.units side p

abbrev pub is_built_anywhere : BuildText → ℕ → Bool
is_built_anywhere b p = is_built_on b Target p || is_built_on b Host p
