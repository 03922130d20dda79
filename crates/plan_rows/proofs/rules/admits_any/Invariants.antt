use Rattle.std.proofs.Common.{◌≡◌, map, drop, option_map}
use Rattle.plan_rows.specs.Steps.{admits_any}
use Rattle.plan_rows.proofs.rules.admits_any.Given as goal

abbrev pub invariant-loop-target : goal.invariant-loop-target
invariant-loop-target g l =
    let platform = option_map (λ t. t.now) l.platform in
    admits_any (map g.P.Platform.holds l.targets) platform ≡ admits_any (map g.P.Platform.holds (drop l.target-index l.targets)) platform
