-- Trees of the packages that a plan builds, as text or as JSON objects.
use Rattle.std.specs.Prelude.{◌≡◌, ◌==◌, ◌++◌, ℕ, List, [], Bool, true, false, Option, Some, None, AllPairs, IsPermutation, map}
use Rattle.cargo_workspaces.specs.Workspaces.{Text, PackageText}
use Rattle.feats_words.specs.declared.command_arguments.Format.{Format}
use Rattle.feats_words.specs.declared.command_arguments.Format.TheVariants as format
use Rattle.feats_tree.specs.trees.Branches.{AreBranches, is_cut}
use Rattle.feats_tree.specs.trees.Cuts.{cut_line, cut_object, limit_of}
use Rattle.feats_tree.specs.trees.Lines.{branch_lines}
use Rattle.feats_tree.specs.trees.Objects.{branch_objects}
use Rattle.feats_tree.specs.trees.Reversals.{IsNoLater, turned}
use Rattle.feats_tree.specs.trees.Titles.{TitleText}
use Rattle.feats_tree.specs.declared.trees.trees.Branch.{Branch}
use Rattle.plan_whys.specs.links.Links.{indexes_of}
use Rattle.plan_whys.specs.links.UnitLinks.{AreUnitLinks, root_units}
use Rattle.cargo_plans.specs.plan_steps.Plans.{PlanText}
use Rattle.cargo_plans.specs.plan_units.Units.{UnitText}
use Rattle.feats_tree.specs.packages.Titles.{unit_titles}

abbrev pub branches_text : Format → List TitleText → List Branch → Text
branches_text format.Text titles branches = branch_lines titles branches
branches_text format.Json titles branches = branch_objects titles branches

-- The line that says that the trees go on below the greatest depth.
abbrev pub cut_text : Format → Text
cut_text format.Text = cut_line
cut_text format.Json = cut_object

-- What follows the branches: that line, if no limit is given and the trees are cut.
abbrev pub end_text : Format → Option ℕ → Bool → Text
end_text form None true = cut_text form
end_text form None false = []
end_text form (Some limit) cut = []

-- The text of the trees of these roots, to the limit or to the greatest depth.
pub record IsTreeText (form : Format) (links : List (ℕ × ℕ)) (roots : List ℕ) (limit : Option ℕ) (titles : List TitleText) (text : Text) : Type 0 where
  pub branches : List Branch
  pub are_branches : AreBranches links roots (Some (limit_of limit)) branches
  pub is_text : text ≡ branches_text form titles branches ++ end_text form limit (is_cut links (Some (limit_of limit)) branches)

-- THE TREES of the packages of a plan: their roots are what is started, and below each package is what it depends on.
pub record IsPackageTree (form : Format) (names : List Text) (packages : List PackageText) (plan : PlanText) (limit : Option ℕ) (text : Text) : Type 0 where
  pub links : List (ℕ × ℕ)
  pub are_links : AreUnitLinks plan links
  pub is_text : IsTreeText form links (root_units plan) limit (unit_titles names packages plan.units) text

-- The numbers of the units of package `p`, in all places.
abbrev pub units_of : ℕ → List UnitText → List ℕ
units_of p units = indexes_of (λ u. u.number == p) units

-- The links the other way round, ascending.
pub record AreTurned (links turned_links : List (ℕ × ℕ)) : Type 0 where
  pub same : IsPermutation (map turned links) turned_links
  pub ascend : AllPairs IsNoLater turned_links

-- THE INVERTED TREES of package `p`: their roots are its units, and below each package is what depends on it.
pub record IsInvertedTree (form : Format) (names : List Text) (packages : List PackageText) (plan : PlanText) (p : ℕ) (limit : Option ℕ) (text : Text) : Type 0 where
  pub links : List (ℕ × ℕ)
  pub are_links : AreUnitLinks plan links
  pub turned_links : List (ℕ × ℕ)
  pub are_turned : AreTurned links turned_links
  pub is_text : IsTreeText form turned_links (units_of p plan.units) limit (unit_titles names packages plan.units) text
