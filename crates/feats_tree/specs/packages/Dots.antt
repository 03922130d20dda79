-- The packages that a plan builds as a graph in the language of Graphviz.
use Rattle.std.specs.Prelude.{◌≡◌, ℕ, List, [], ◌∷◌, ◌++◌, map, length, codes}
use Rattle.std.specs.List.{zip}
use Rattle.cargo_workspaces.specs.Workspaces.{Text, PackageText}
use Rattle.feats_tree.specs.dots.Dots.{NodeText, dot_text}
use Rattle.plan_whys.specs.links.UnitLinks.{AreUnitLinks}
use Rattle.cargo_plans.specs.plan_steps.Plans.{PlanText}
use Rattle.cargo_plans.specs.plan_units.Units.{UnitText}
use Rattle.cargo_plans.specs.declared.plan_units.unit.Place.{Place}
use Rattle.cargo_plans.specs.declared.plan_units.unit.Place.TheVariants as place
use Rattle.feats_tree.specs.packages.Titles.{unit_title}

-- The cluster of a place: the target platforms, of which there are `count`, are followed by the host.
abbrev pub cluster_of : ℕ → Place → ℕ
cluster_of count place.Host = count
cluster_of count (place.Target k) = k

abbrev pub clusters : List Text → List Text
clusters names = names ++ codes "host" ∷ []

-- A unit with its title, where there are `count` target platforms.
abbrev pub node_of : ℕ → UnitText × Text → NodeText
node_of count pair = record { cluster = cluster_of count pair.0.place; title = pair.1 }

abbrev pub nodes_with : ℕ → List UnitText → List Text → List NodeText
nodes_with count units titles = map (node_of count) (zip units titles)

-- The graph of units with these titles.
abbrev pub dot_of : List Text → List UnitText → List Text → List (ℕ × ℕ) → Text
dot_of names units titles links = dot_text (clusters names) (nodes_with (length names) units titles) links

-- THE GRAPH of a plan: a node for each package in a place, in the cluster of the place, and an edge to each package that it depends on.
pub record IsPackageDot (names : List Text) (packages : List PackageText) (plan : PlanText) (text : Text) : Type 0 where
  pub links : List (ℕ × ℕ)
  pub are_links : AreUnitLinks plan links
  pub is_text : text ≡ dot_of names plan.units (map (unit_title names packages) plan.units) links
