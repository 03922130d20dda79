-- What the parts of a text show of a plan.
use Rattle.std.proofs.Common.{◌≡◌, ◌∙◌, ◌++◌, ℕ, Bool, List, Option, Some, Result, ap, ap₂, length, map, subst}
use Rattle.std.specs.Prelude.{IfOk}
use Rattle.std.specs.Global.{Vec}
use Rattle.std.proofs.lemmas.Result.{IfOk-weaker}
use Rattle.cargo_workspaces.specs.Workspaces.{PackageText, Text}
use Rattle.feats_words.specs.declared.command_arguments.Format.{Format}
use Rattle.feats_tree.specs.trees.Branches.{AreBranches, is_cut}
use Rattle.feats_tree.specs.trees.Cuts.{limit_of}
use Rattle.feats_tree.specs.trees.Titles.{TitleText}
use Rattle.feats_tree.specs.declared.trees.trees.Branch.{Branch}
use Rattle.feats_tree.specs.dots.Dots.{NodeText, dot_text}
use Rattle.plan_whys.specs.links.UnitLinks.{AreUnitLinks, root_units}
use Rattle.cargo_plans.specs.plan_steps.Plans.{PlanText}
use Rattle.cargo_plans.specs.plan_units.Units.{UnitText}
use Rattle.feats_tree.specs.packages.Dots.{IsPackageDot, clusters, dot_of, nodes_with}
use Rattle.feats_tree.specs.packages.Titles.{unit_title, unit_titles}
use Rattle.feats_tree.specs.packages.Trees.{AreTurned, IsInvertedTree, IsPackageTree, IsTreeText, branches_text, end_text, units_of}

module _ {E : Type 0} (r : Result (Vec ℕ) E) where
  -- Graphs.

  pub graph_of : (names : List Text) (units : List UnitText) (titles : List Text) (links : List (ℕ × ℕ)) (count : ℕ) (labels : List Text) (nodes : List NodeText) → labels ≡ clusters names → nodes ≡ nodes_with count units titles → count ≡ length names
      → IfOk r (λ text. text.items ≡ dot_text labels nodes links) → IfOk r (λ text. text.items ≡ dot_of names units titles links)
  graph_of names units titles links count labels nodes labels_are nodes_are long is =
      let all : nodes ≡ nodes_with (length names) units titles = nodes_are ∙ ap (λ n. nodes_with n units titles) long in
      subst (λ ns. IfOk r (λ text. text.items ≡ dot_text (clusters names) ns links)) all (subst (λ ls. IfOk r (λ text. text.items ≡ dot_text ls nodes links)) labels_are is)

  pub package_graph : (names : List Text) (packages : List PackageText) (plan : PlanText) (units : List UnitText) (titles : List Text) (links : List (ℕ × ℕ)) → AreUnitLinks plan links → units ≡ plan.units → titles ≡ map (unit_title names packages) plan.units
      → IfOk r (λ text. text.items ≡ dot_of names units titles links) → IfOk r (λ text. IsPackageDot names packages plan text.items)
  package_graph names packages plan units titles links are units_are titles_are is =
      IfOk-weaker r _ _ (λ text same. record { links = links; are_links = are; is_text = same ∙ ap₂ (λ us ts. dot_of names us ts links) units_are titles_are }) is

  -- Trees.

  pub tree_by : (form : Format) (links : List (ℕ × ℕ)) (roots : List ℕ) (limit : Option ℕ) (titles : List TitleText) (branches taken : List Branch) (depth : ℕ) (lines : Text) (cut : Bool)
      → depth ≡ limit_of limit → AreBranches links roots (Some depth) branches → taken ≡ branches → lines ≡ branches_text form titles taken → cut ≡ is_cut links (Some depth) branches
      → IfOk r (λ text. text.items ≡ lines ++ end_text form limit cut) → IfOk r (λ text. IsTreeText form links roots limit titles text.items)
  tree_by form links roots limit titles branches taken depth lines cut depth_is are same lines_are cut_is is =
      IfOk-weaker r _ _ (λ text shown. record {
        branches = branches;
        are_branches = subst (λ (d : ℕ). AreBranches links roots (Some d) branches) depth_is are;
        is_text = shown ∙ ap₂ (λ (ls : Text) (c : Bool). ls ++ end_text form limit c) (lines_are ∙ ap (branches_text form titles) same) (cut_is ∙ ap (λ (d : ℕ). is_cut links (Some d) branches) depth_is);
      }) is

  pub package_trees : (form : Format) (names : List Text) (packages : List PackageText) (plan : PlanText) (limit : Option ℕ) (links : List (ℕ × ℕ)) (roots : List ℕ) (ns : List Text) (ps : List PackageText) (us : List UnitText)
      → AreUnitLinks plan links → roots ≡ root_units plan → ns ≡ names → ps ≡ packages → us ≡ plan.units
      → IfOk r (λ text. IsTreeText form links roots limit (unit_titles ns ps us) text.items) → IfOk r (λ text. IsPackageTree form names packages plan limit text.items)
  package_trees form names packages plan limit links roots ns ps us are roots_are names_are packages_are units_are is =
      IfOk-weaker r _ _ (λ text shown. record {
        links = links;
        are_links = are;
        is_text =
            subst (λ ts. IsTreeText form links (root_units plan) limit ts text.items) (λ i. unit_titles (names_are i) (packages_are i) (units_are i))
            (subst (λ rs. IsTreeText form links rs limit (unit_titles ns ps us) text.items) roots_are shown);
      }) is

  pub inverted_trees : (form : Format) (names : List Text) (packages : List PackageText) (plan : PlanText) (p : ℕ) (limit : Option ℕ) (links turned_links : List (ℕ × ℕ)) (roots : List ℕ) (ns : List Text) (ps : List PackageText) (us : List UnitText)
      → AreUnitLinks plan links → AreTurned links turned_links → roots ≡ units_of p plan.units → ns ≡ names → ps ≡ packages → us ≡ plan.units
      → IfOk r (λ text. IsTreeText form turned_links roots limit (unit_titles ns ps us) text.items) → IfOk r (λ text. IsInvertedTree form names packages plan p limit text.items)
  inverted_trees form names packages plan p limit links turned_links roots ns ps us are turned roots_are names_are packages_are units_are is =
      IfOk-weaker r _ _ (λ text shown. record {
        links = links;
        are_links = are;
        turned_links = turned_links;
        are_turned = turned;
        is_text =
            subst (λ ts. IsTreeText form turned_links (units_of p plan.units) limit ts text.items) (λ i. unit_titles (names_are i) (packages_are i) (units_are i))
            (subst (λ rs. IsTreeText form turned_links rs limit (unit_titles ns ps us) text.items) roots_are shown);
      }) is
