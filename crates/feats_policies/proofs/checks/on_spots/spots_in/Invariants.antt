use Rattle.std.proofs.Common.{◌≡◌, ◌++◌, filter, flat_map, map, drop}
use Rattle.plan_names.specs.Views.{named_text}
use Rattle.plan_whys.specs.StepViews.{spot_text}
use Rattle.feats_policies.specs.checks.Spots.{on_both_sides}
use Rattle.feats_policies.specs.checks.inner.Scopes.{passes}
use Rattle.feats_policies.proofs.checks.on_spots.spots_in.Given as goal

abbrev pub invariant-loop-named : goal.invariant-loop-named
invariant-loop-named l =
    filter (passes l.on l.scope) (flat_map on_both_sides (map named_text l.parts))
    ≡ map spot_text l.spots.items ++ filter (passes l.on l.scope) (flat_map on_both_sides (map named_text (drop l.named-index l.parts)))
