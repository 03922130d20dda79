-- What routes are shown by.
use Rattle.std.specs.Prelude.{List, Bool, map}
use Rattle.cargo_workspaces.specs.Workspaces.{PackageText, Text}
use Rattle.cargo_workspaces.specs.Views.{package_text}
use Rattle.cargo_plans.specs.plan_steps.Plans.{PlanText}
use Rattle.cargo_plans.specs.plan_steps.PlanViews.{plan_text}
use Rattle.feats_tree.specs.trees.Titles.{TitleText, title_text}
use Rattle.feats_why.specs.Settings.{SettingsText, settings_text}
use Rattle.feats_routes.specs.declared.shown.Shown.{Shown}

-- The settings of the words, the packages, the plan, and what is shown of each of its units.
pub record ShownText : Type 0 where
  pub settings : SettingsText
  pub packages : List PackageText
  pub plan : PlanText
  pub titles : List TitleText

-- `holds` is what a platform's value means.
abbrev pub shown_text : {P : Type 0} → (P → Text → Bool) → Shown P → ShownText
shown_text holds s = record { settings = settings_text holds s.settings; packages = map package_text s.packages.now; plan = plan_text s.plan.now; titles = map title_text s.titles.now }
