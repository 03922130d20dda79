use Rattle.std.proofs.Common.{◌≡◌, ◌++◌, ◌∷◌, [], ℕ, drop, if◌then◌else◌, map}
use Rattle.std.specs.Prelude.{not, ◌&&◌}
use Rattle.digraphs.specs.Bits.{has}
use Rattle.plan_whys.specs.links.SpotLinks.{is_command}
use Rattle.cargo_plans.specs.plan_starts.Lists.{joined_from}
use Rattle.plan_whys.specs.Steps.{SpotText}
use Rattle.plan_whys.specs.StepViews.{spot_text}
use Rattle.feats_tree.specs.features.Roots.{numbers_in}
use Rattle.feats_tree.proofs.features.roots.asked_of.Given as goal

abbrev pub invariant-loop-number : goal.invariant-loop-number
invariant-loop-number l =
    numbers_in (has l.asked) (map spot_text l.spots)
    ≡ l.roots.items ++ joined_from (λ (k : ℕ) (s : SpotText). if has l.asked k && not (is_command s.label) then k ∷ [] else []) l.number (map spot_text (drop l.number l.spots))
