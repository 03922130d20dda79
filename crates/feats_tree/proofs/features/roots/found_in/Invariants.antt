use Rattle.std.proofs.Common.{◌≡◌, ◌++◌, ◌∷◌, [], ℕ, drop, if◌then◌else◌}
use Rattle.std.specs.Prelude.{not, ◌&&◌}
use Rattle.plan_whys.specs.links.Links.{indexes_of}
use Rattle.plan_whys.specs.links.SpotLinks.{is_command}
use Rattle.cargo_plans.specs.plan_starts.Lists.{joined_from}
use Rattle.plan_whys.specs.StepViews.{spot_text}
use Rattle.plan_whys.specs.declared.steps.Spot.{Spot}
use Rattle.feats_tree.specs.features.inner.Keys.{has_key}
use Rattle.feats_tree.proofs.features.roots.found_in.Given as goal

abbrev pub invariant-loop-number : goal.invariant-loop-number
invariant-loop-number l =
    let test = λ (s : Spot). has_key l.keys s && not (is_command (spot_text s).label) in
    indexes_of test l.spots ≡ l.roots.items ++ joined_from (λ (k : ℕ) (s : Spot). if test s then k ∷ [] else []) l.number (drop l.number l.spots)
