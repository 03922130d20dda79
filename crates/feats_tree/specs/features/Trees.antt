-- Trees of the features that are on in a plan, as text or as JSON objects. `sides` is whether labels name the host side.
use Rattle.std.specs.Prelude.{ℕ, List, Bool, Option}
use Rattle.cargo_workspaces.specs.Workspaces.{Text, PackageText}
use Rattle.feats_words.specs.declared.command_arguments.Format.{Format}
use Rattle.plan_whys.specs.links.SpotLinks.{AreSpotLinks, AreSpotsOn}
use Rattle.cargo_plans.specs.plan_steps.Plans.{PlanText}
use Rattle.feats_tree.specs.packages.Trees.{AreTurned, IsTreeText}
use Rattle.plan_whys.specs.Steps.{SpotText}
use Rattle.feats_tree.specs.features.Links.{shown_links}
use Rattle.feats_tree.specs.features.Roots.{asked_spots, wanted_spots}
use Rattle.feats_tree.specs.features.Titles.{spot_titles}

-- THE TREES of features: their roots are what the command line turns on, and below each spot is what it turns on.
pub record IsFeatureTree (form : Format) (sides : Bool) (packages : List PackageText) (plan : PlanText) (limit : Option ℕ) (text : Text) : Type 0 where
  pub spots : List SpotText
  pub are_spots : AreSpotsOn plan.on spots
  pub links : List (ℕ × ℕ)
  pub are_links : AreSpotLinks plan.on links
  pub is_text : IsTreeText form (shown_links spots links) (asked_spots spots links) limit (spot_titles packages sides spots) text

-- The text of trees of these roots, over the links the other way round.
pub record IsTurnedTree (form : Format) (links : List (ℕ × ℕ)) (roots : List ℕ) (limit : Option ℕ) (packages : List PackageText) (sides : Bool) (spots : List SpotText) (text : Text) : Type 0 where
  pub turned_links : List (ℕ × ℕ)
  pub are_turned : AreTurned links turned_links
  pub is_text : IsTreeText form turned_links roots limit (spot_titles packages sides spots) text

-- THE INVERTED TREES of these spots: their roots are those of them that are on, and below each spot is what turns it on.
pub record IsInvertedFeatureTree (form : Format) (sides : Bool) (packages : List PackageText) (plan : PlanText) (wanted : List SpotText) (limit : Option ℕ) (text : Text) : Type 0 where
  pub spots : List SpotText
  pub are_spots : AreSpotsOn plan.on spots
  pub links : List (ℕ × ℕ)
  pub are_links : AreSpotLinks plan.on links
  pub is_text : IsTurnedTree form (shown_links spots links) (wanted_spots wanted spots) limit packages sides spots text
