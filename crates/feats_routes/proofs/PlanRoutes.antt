-- What the parts of an answer show of a plan.
use Rattle.std.proofs.Common.{◌≡◌, ◌∙◌, ℕ, List, Result, map, subst}
use Rattle.std.specs.Prelude.{IfOk}
use Rattle.std.specs.Global.{Vec}
use Rattle.std.proofs.lemmas.Result.{IfOk-weaker}
use Rattle.cargo_plans.specs.Plans.{WordsText}
use Rattle.cargo_plans.specs.plan_steps.Plans.{PlanText}
use Rattle.cargo_plans.specs.plan_units.Units.{UnitText}
use Rattle.cargo_workspaces.specs.Workspaces.{PackageText, Text, WorkspaceText}
use Rattle.feats_tree.specs.packages.Titles.{titles_with, unit_detail, unit_title, unit_titles}
use Rattle.feats_tree.specs.packages.Trees.{units_of}
use Rattle.feats_tree.specs.trees.Titles.{DetailText, TitleText}
use Rattle.feats_why.specs.Settings.{SettingsText, settings_of}
use Rattle.feats_words.specs.declared.command_arguments.Format.{Format}
use Rattle.plan_whys.specs.links.UnitLinks.{AreUnitLinks, root_units}
use Rattle.shortest_routes.specs.Routes.{AreShortestRoutes, RouteText, route_text}
use Rattle.shortest_routes.specs.declared.routes.Route.{Route}
use Rattle.feats_routes.specs.Routes.{AreRoutesTo, IsRoutesText, text_of}
use Rattle.feats_routes.specs.Shown.{ShownText}

-- the shortest routes over the links of a plan
pub routes_of : {E : Type 0} (r : Result (Vec Route) E) (plan : PlanText) (p : ℕ) (links : List (ℕ × ℕ)) (targets owners starts : List ℕ)
    → AreUnitLinks plan links → targets ≡ units_of p plan.units → owners ≡ map (λ (u : UnitText). u.number) plan.units → starts ≡ root_units plan
    → IfOk r (λ routes. AreShortestRoutes links targets owners starts (map route_text routes.items)) → IfOk r (λ routes. AreRoutesTo plan p (map route_text routes.items))
routes_of r plan p links targets owners starts are targets_are owners_are starts_are is =
    IfOk-weaker r _ _ (λ routes h. record {
      links = links;
      are_links = are;
      are_shortest =
          subst (λ (z : List ℕ). AreShortestRoutes links (units_of p plan.units) (map (λ (u : UnitText). u.number) plan.units) z (map route_text routes.items)) starts_are
          (subst (λ (z : List ℕ). AreShortestRoutes links (units_of p plan.units) z starts (map route_text routes.items)) owners_are
          (subst (λ (z : List ℕ). AreShortestRoutes links z owners starts (map route_text routes.items)) targets_are h));
    }) is

-- titles with details are those of the units
pub titles_shown : (names : List Text) (first second packages : List PackageText) (us vs units : List UnitText) (titles : List Text) (details : List DetailText) (shown : List TitleText)
    → shown ≡ titles_with titles details → titles ≡ map (unit_title names first) us → details ≡ map (unit_detail names second) vs
    → first ≡ packages → second ≡ packages → us ≡ units → vs ≡ units → shown ≡ unit_titles names packages units
titles_shown names first second packages us vs units titles details shown made titles_are details_are first_are second_are us_are vs_are =
    made
    ∙ (λ i. titles_with (titles_are i) (details_are i))
    ∙ (λ i. titles_with (map (unit_title names (first_are i)) (us_are i)) (map (unit_detail names (second_are i)) (vs_are i)))

-- the text of these routes
pub text_shown : {E : Type 0} (r : Result (Vec ℕ) E) (form : Format) (names : List Text) (w : WorkspaceText) (words : WordsText) (plan : PlanText) (p : ℕ) (routes given : List RouteText)
    (s : ShownText) (settings : SettingsText) (packages : List PackageText) (titles : List TitleText) → AreRoutesTo plan p routes → given ≡ routes
    → s ≡ record { settings = settings; packages = packages; plan = plan; titles = titles }
    → settings ≡ settings_of words → packages ≡ w.packages → titles ≡ unit_titles names w.packages plan.units
    → IfOk r (λ text. text.items ≡ text_of form s given) → IfOk r (λ text. IsRoutesText form names w words plan p text.items)
text_shown r form names w words plan p routes given s settings packages titles are same shown_is settings_are packages_are titles_are is =
    IfOk-weaker r _ _ (λ text h. record {
      routes = routes;
      are_routes = are;
      is_text =
          h
          ∙ (λ i. text_of form (shown_is i) (same i))
          ∙ (λ i. text_of form (record { settings = settings_are i; packages = packages_are i; plan = plan; titles = titles_are i }) routes);
    }) is
