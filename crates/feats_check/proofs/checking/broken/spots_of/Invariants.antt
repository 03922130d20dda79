use Rattle.std.proofs.Common.{◌≡◌, ◌++◌, drop, flat_map, map}
use Rattle.feats_policies.specs.checks.Checks.{VerdictText}
use Rattle.feats_policies.specs.checks.Views.{verdict_text}
use Rattle.plan_whys.specs.StepViews.{spot_text}
use Rattle.feats_check.proofs.checking.broken.spots_of.Given as goal

abbrev pub invariant-loop-verdict : goal.invariant-loop-verdict
invariant-loop-verdict l =
    let spots = flat_map (λ (v : VerdictText). v.spots) in
    spots (map verdict_text l.verdicts) ≡ map spot_text l.spots.items ++ spots (map verdict_text (drop l.verdict-index l.verdicts))
