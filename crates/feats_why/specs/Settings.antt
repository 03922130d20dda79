-- What the lines of an explanation are made from, besides the workspace and the steps.
use Rattle.std.specs.Prelude.{List, Bool, map}
use Rattle.cargo_workspaces.specs.Workspaces.{Text}
use Rattle.cargo_plans.specs.Plans.{WordsText}
use Rattle.plan_words.specs.TargetChoices.{needs_development}
use Rattle.feats_why.specs.declared.settings.WhySettings.{WhySettings}

-- Whether the resolver tells sides apart, and the host side is shown, whether dependencies for development count, and which platform specs hold for the host
-- and for each of the targets.
pub record SettingsText : Type 0 where
  pub split : Bool
  pub development : Bool
  pub host : Text → Bool
  pub targets : List (Text → Bool)

-- `holds` is what a platform's value means.
abbrev pub settings_text : {P : Type 0} → (P → Text → Bool) → WhySettings P → SettingsText
settings_text holds s = record { split = s.split; development = s.development; host = holds s.host.now; targets = map holds s.targets.now }

-- The settings of the lines that explain a plan for the words.
abbrev pub settings_of : WordsText → SettingsText
settings_of words = record { split = words.selection.split; development = needs_development words.choice; host = words.host; targets = words.targets }
