-- The routes by which selected members lead to a package.
use Rattle.std.specs.Prelude.{◌≡◌, ℕ, List, flat_map, map}
use Rattle.cargo_workspaces.specs.Workspaces.{Text, WorkspaceText}
use Rattle.cargo_plans.specs.Plans.{WordsText}
use Rattle.cargo_plans.specs.plan_steps.Plans.{PlanText}
use Rattle.feats_tree.specs.packages.Titles.{unit_titles}
use Rattle.feats_tree.specs.packages.Trees.{units_of}
use Rattle.feats_why.specs.Settings.{settings_of}
use Rattle.feats_words.specs.declared.command_arguments.Format.{Format}
use Rattle.feats_words.specs.declared.command_arguments.Format.TheVariants as format
use Rattle.plan_whys.specs.links.UnitLinks.{AreUnitLinks, root_units}
use Rattle.shortest_routes.specs.Routes.{AreShortestRoutes, RouteText}
use Rattle.feats_routes.specs.Lines.{route_lines}
use Rattle.feats_routes.specs.Objects.{route_object}
use Rattle.feats_routes.specs.Shown.{ShownText}

-- THE ROUTES to package `p` in a plan: chains of links from a unit that a member starts to a unit of the package, of which none of the same member
-- is shorter. Each member from whose units a chain leads there has one, in the order of the ids.
pub record AreRoutesTo (plan : PlanText) (p : ℕ) (routes : List RouteText) : Type 0 where
  pub links : List (ℕ × ℕ)
  pub are_links : AreUnitLinks plan links
  pub are_shortest : AreShortestRoutes links (units_of p plan.units) (map (λ u. u.number) plan.units) (root_units plan) routes

abbrev pub text_of : Format → ShownText → List RouteText → Text
text_of format.Text s routes = flat_map (route_lines s) routes
text_of format.Json s routes = flat_map (route_object s) routes

-- The text of these routes.
pub record IsRoutesText (form : Format) (names : List Text) (w : WorkspaceText) (words : WordsText) (plan : PlanText) (p : ℕ) (text : Text) : Type 0 where
  pub routes : List RouteText
  pub are_routes : AreRoutesTo plan p routes
  pub is_text : text ≡ text_of form (record { settings = settings_of words; packages = w.packages; plan = plan; titles = unit_titles names w.packages plan.units }) routes
