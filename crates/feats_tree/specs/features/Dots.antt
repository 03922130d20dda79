-- The features that are on in a plan as a graph in the language of Graphviz.
use Rattle.std.specs.Prelude.{◌≡◌, ℕ, List, [], ◌∷◌, map, Bool, codes, if◌then◌else◌}
use Rattle.std.specs.List.{zip}
use Rattle.cargo_workspaces.specs.Workspaces.{Text, PackageText}
use Rattle.feats_tree.specs.dots.Dots.{NodeText, dot_text}
use Rattle.plan_whys.specs.links.SpotLinks.{AreSpotLinks, AreSpotsOn, is_command}
use Rattle.plan_rows.specs.Steps.{is_host}
use Rattle.cargo_plans.specs.plan_steps.Plans.{PlanText}
use Rattle.plan_whys.specs.Steps.{SpotText}
use Rattle.feats_tree.specs.features.Links.{shown_links}
use Rattle.feats_tree.specs.features.Titles.{labels_of}

abbrev pub clusters : List Text
clusters = codes "target" ∷ codes "host" ∷ []

-- The cluster of a spot is that of its side. A command feature is in none, so it isn't drawn.
abbrev pub cluster_of : SpotText → ℕ
cluster_of s = if is_command s.label then 2 else if is_host s.side then 1 else 0

-- A spot with its label.
abbrev pub node_of : SpotText × Text → NodeText
node_of pair = record { cluster = cluster_of pair.0; title = pair.1 }

abbrev pub nodes_with : List SpotText → List Text → List NodeText
nodes_with spots labels = map node_of (zip spots labels)

-- The graph of spots with these labels.
abbrev pub dot_of : List SpotText → List Text → List (ℕ × ℕ) → Text
dot_of spots labels links = dot_text clusters (nodes_with spots labels) (shown_links spots links)

-- THE GRAPH of the features of a plan: a node for each spot that is on, in the cluster of its side, and an edge to each that it turns on.
-- Command features are left out. `sides` is whether labels name the host side.
pub record IsFeatureDot (sides : Bool) (packages : List PackageText) (plan : PlanText) (text : Text) : Type 0 where
  pub spots : List SpotText
  pub are_spots : AreSpotsOn plan.on spots
  pub links : List (ℕ × ℕ)
  pub are_links : AreSpotLinks plan.on links
  pub is_text : text ≡ dot_of spots (labels_of packages sides spots) links
