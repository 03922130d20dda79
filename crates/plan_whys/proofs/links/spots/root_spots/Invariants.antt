use Rattle.std.proofs.Common.{◌≡◌, ◌++◌, ◌∷◌, [], ℕ, drop, if◌then◌else◌, map}
use Rattle.cargo_plans.specs.plan_starts.Lists.{joined_from}
use Rattle.plan_whys.specs.Steps.{SpotText}
use Rattle.plan_whys.specs.StepViews.{spot_text}
use Rattle.plan_whys.specs.links.SpotLinks.{is_command, root_spots}
use Rattle.plan_whys.proofs.links.spots.root_spots.Given as goal

abbrev pub invariant-loop-number : goal.invariant-loop-number
invariant-loop-number l =
    root_spots (map spot_text l.spots)
    ≡ l.roots.items ++ joined_from (λ (k : ℕ) (s : SpotText). if is_command s.label then k ∷ [] else []) l.number (map spot_text (drop l.number l.spots))
