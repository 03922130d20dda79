-- What the parts of a text show of the features of a plan.
use Rattle.std.proofs.Common.{◌≡◌, ◌∙◌, ℕ, Bool, List, Option, Result, ap, subst, sym}
use Rattle.std.specs.Prelude.{IfOk}
use Rattle.std.specs.Global.{Vec}
use Rattle.std.proofs.lemmas.Result.{IfOk-weaker}
use Rattle.cargo_workspaces.specs.Workspaces.{PackageText, Text}
use Rattle.feats_words.specs.declared.command_arguments.Format.{Format}
use Rattle.feats_tree.specs.trees.Titles.{DetailText, TitleText}
use Rattle.feats_tree.specs.dots.Dots.{NodeText, dot_text}
use Rattle.plan_whys.specs.links.SpotLinks.{AreSpotLinks, AreSpotsOn}
use Rattle.cargo_plans.specs.plan_steps.Plans.{PlanText}
use Rattle.feats_tree.specs.packages.Titles.{titles_with}
use Rattle.feats_tree.specs.packages.Trees.{AreTurned, IsTreeText}
use Rattle.plan_whys.specs.Steps.{SpotText}
use Rattle.feats_tree.specs.features.Dots.{IsFeatureDot, clusters, dot_of, nodes_with}
use Rattle.feats_tree.specs.features.Links.{shown_links}
use Rattle.feats_tree.specs.features.Roots.{asked_spots, wanted_spots}
use Rattle.feats_tree.specs.features.Titles.{labels_of, spot_titles}
use Rattle.feats_tree.specs.features.Trees.{IsFeatureTree, IsInvertedFeatureTree, IsTurnedTree}

module _ {E : Type 0} (r : Result (Vec ℕ) E) where
  -- Graphs.

  pub graph_of : (labels : List Text) (nodes taken_nodes : List NodeText) (spots : List SpotText) (titles : List Text) (links shown taken_links : List (ℕ × ℕ)) → labels ≡ clusters → nodes ≡ nodes_with spots titles → taken_nodes ≡ nodes
      → shown ≡ shown_links spots links → taken_links ≡ shown → IfOk r (λ text. text.items ≡ dot_text labels taken_nodes taken_links) → IfOk r (λ text. text.items ≡ dot_of spots titles links)
  graph_of labels nodes taken_nodes spots titles links shown taken_links labels_are nodes_are nodes_same shown_are links_same is =
      subst (λ (ls : List Text). IfOk r (λ text. text.items ≡ dot_text ls (nodes_with spots titles) (shown_links spots links))) labels_are
      (subst (λ (ns : List NodeText). IfOk r (λ text. text.items ≡ dot_text labels ns (shown_links spots links))) (nodes_same ∙ nodes_are)
      (subst (λ (ls : List (ℕ × ℕ)). IfOk r (λ text. text.items ≡ dot_text labels taken_nodes ls)) (links_same ∙ shown_are) is))

  pub feature_graph : (sides : Bool) (packages : List PackageText) (plan : PlanText) (spots taken_spots : List SpotText) (titles : List Text) (links taken_links : List (ℕ × ℕ)) → AreSpotsOn plan.on spots → taken_spots ≡ spots
      → AreSpotLinks plan.on links → taken_links ≡ links → titles ≡ labels_of packages sides taken_spots
      → IfOk r (λ text. text.items ≡ dot_of taken_spots titles taken_links) → IfOk r (λ text. IsFeatureDot sides packages plan text.items)
  feature_graph sides packages plan spots taken_spots titles links taken_links are_on spots_same are links_same titles_are is =
      IfOk-weaker r _ _ (λ text same. record {
        spots = taken_spots;
        are_spots = subst (AreSpotsOn plan.on) (sym spots_same) are_on;
        links = taken_links;
        are_links = subst (AreSpotLinks plan.on) (sym links_same) are;
        is_text = same ∙ ap (λ (ts : List Text). dot_of taken_spots ts taken_links) titles_are;
      }) is

  -- Trees.

  pub titled_by : (form : Format) (links : List (ℕ × ℕ)) (roots : List ℕ) (limit : Option ℕ) (titles : List Text) (details : List DetailText) (all : List TitleText) → titles_with titles details ≡ all
      → IfOk r (λ text. IsTreeText form links roots limit (titles_with titles details) text.items) → IfOk r (λ text. IsTreeText form links roots limit all text.items)
  titled_by form links roots limit titles details all same is = subst (λ (ts : List TitleText). IfOk r (λ text. IsTreeText form links roots limit ts text.items)) same is

  pub tree_over : (form : Format) (links new_links : List (ℕ × ℕ)) (roots new_roots : List ℕ) (limit : Option ℕ) (titles : List TitleText) → links ≡ new_links → roots ≡ new_roots
      → IfOk r (λ text. IsTreeText form links roots limit titles text.items) → IfOk r (λ text. IsTreeText form new_links new_roots limit titles text.items)
  tree_over form links new_links roots new_roots limit titles links_are roots_are is =
      subst (λ (rs : List ℕ). IfOk r (λ text. IsTreeText form new_links rs limit titles text.items)) roots_are
      (subst (λ (ls : List (ℕ × ℕ)). IfOk r (λ text. IsTreeText form ls roots limit titles text.items)) links_are is)

  pub turned_trees : (form : Format) (links turned_links : List (ℕ × ℕ)) (roots : List ℕ) (limit : Option ℕ) (packages : List PackageText) (sides : Bool) (spots : List SpotText) → AreTurned links turned_links
      → IfOk r (λ text. IsTreeText form turned_links roots limit (spot_titles packages sides spots) text.items) → IfOk r (λ text. IsTurnedTree form links roots limit packages sides spots text.items)
  turned_trees form links turned_links roots limit packages sides spots turned is =
      IfOk-weaker r _ _ (λ text shown. record { turned_links = turned_links; are_turned = turned; is_text = shown }) is

  module _ (form : Format) (sides : Bool) (packages : List PackageText) (plan : PlanText) (limit : Option ℕ) (spots taken_spots : List SpotText) (links taken_links : List (ℕ × ℕ)) (are_on : AreSpotsOn plan.on spots) (spots_same : taken_spots ≡ spots) (are : AreSpotLinks plan.on links) (links_same : taken_links ≡ links) where
    pub feature_trees : IfOk r (λ text. IsTreeText form (shown_links taken_spots taken_links) (asked_spots taken_spots taken_links) limit (spot_titles packages sides taken_spots) text.items)
        → IfOk r (λ text. IsFeatureTree form sides packages plan limit text.items)
    feature_trees is =
        IfOk-weaker r _ _ (λ text shown. record {
          spots = taken_spots;
          are_spots = subst (AreSpotsOn plan.on) (sym spots_same) are_on;
          links = taken_links;
          are_links = subst (AreSpotLinks plan.on) (sym links_same) are;
          is_text = shown;
        }) is

    pub inverted_trees : (wanted : List SpotText) (roots : List ℕ) → roots ≡ wanted_spots wanted taken_spots
        → IfOk r (λ text. IsTurnedTree form (shown_links taken_spots taken_links) roots limit packages sides taken_spots text.items)
        → IfOk r (λ text. IsInvertedFeatureTree form sides packages plan wanted limit text.items)
    inverted_trees wanted roots roots_are is =
        IfOk-weaker r _ _ (λ text shown. record {
          spots = taken_spots;
          are_spots = subst (AreSpotsOn plan.on) (sym spots_same) are_on;
          links = taken_links;
          are_links = subst (AreSpotLinks plan.on) (sym links_same) are;
          is_text = subst (λ (rs : List ℕ). IsTurnedTree form (shown_links taken_spots taken_links) rs limit packages sides taken_spots text.items) roots_are shown;
        }) is
