-- Which spots count.
use Rattle.std.specs.Prelude.{List, Bool, false, ◌&&◌, slice_index_or, if◌then◌else◌}
use Rattle.plan_rows.specs.Steps.{is_host}
use Rattle.cargo_plans.specs.plan_starts.PackageVisits.{PairVisit, is_on}
use Rattle.plan_whys.specs.Steps.{SpotText}
use Rattle.cargo_plans.specs.built_parts.BuiltViews.{builds_in}
use Rattle.feats_policies.specs.checks.Builds.{BuildText, is_built_on}
use Rattle.feats_policies.specs.checks.Spots.{is_spot_on}
use Rattle.feats_policies.specs.declared.checks.on_spots.Scope.{Scope}
use Rattle.feats_policies.specs.declared.checks.on_spots.Scope.TheVariants as scope

-- Whether a package is marked, on a side.
abbrev pub is_marked : List Bool → List Bool → SpotText → Bool
is_marked target host s = slice_index_or (if is_host s.side then host else target) s.number false

-- Whether a spot is on, and counts.
abbrev pub passes : PairVisit → Scope → SpotText → Bool
passes on scope.Everywhere s = is_on on s.side s.number s.label
passes on (scope.Built parts) s = is_on on s.side s.number s.label && builds_in parts.now s.side s.number
passes on (scope.Marked target host) s = is_on on s.side s.number s.label && is_marked target.now host.now s

-- Whether a spot is on, and its package is built on its side.
abbrev pub is_spot_built : BuildText → SpotText → Bool
is_spot_built b s = is_spot_on b s && is_built_on b s.side s.number
