-- The targets of a package that a command line chooses.
use Rattle.std.specs.Prelude.{ℕ, List, Option, Bool, false, not, ◌&&◌, ◌||◌, if◌then◌else◌, slice_get}
use Rattle.std.specs.List.{list_all, list_any}
use Rattle.std.specs.Option.{is_some, option_map_or}
use Rattle.std.specs.Str.{bytes_eq}
use Rattle.guppy_packages.specs.Items.{slash_item, item_of}
use Rattle.feature_labels.specs.Names.LabelName.{named}
use Rattle.cargo_workspaces.specs.Workspaces.{Text, DeclarationText, TargetText, PackageText, both_lead_to, has_macro_target, is_macro_target}
use Rattle.plan_words.specs.TargetChoices.{TargetChoiceText, is_by_name, is_chosen, is_with_development, needs_development}
use Rattle.plan_rows.specs.Commands.{is_started}
use Rattle.plan_rows.specs.Steps.{SettingsText, admits, admits_any, is_development, lands}
use Rattle.plan_rows.specs.declared.side.Side.TheVariants.{Target}
use Rattle.plan_starts.specs.PackageVisits.{PairVisit, is_kept, is_on}

-- By what targets are chosen: the settings, the packages, which optional dependencies are kept, and which features are on.
pub record TargetRules : Type 0 where
  pub settings : SettingsText
  pub packages : List PackageText
  pub kept : PairVisit
  pub on : PairVisit

-- Whether a target of package `q` is a procedural macro.
abbrev pub has_macro : List PackageText → ℕ → Bool
has_macro packages q = option_map_or has_macro_target (slice_get packages q) false

-- Whether version resolving follows a declaration of package `p`: it leads to a package, is required or kept, and for development only if
-- the package is started.
abbrev pub is_followed : TargetRules → ℕ → DeclarationText → Bool
is_followed r p d =
    is_some d.leads_to
    && (not (is_development d.kind) || is_started r.settings.commands p)
    && (not d.optional || is_kept r.kept p d.name)

-- Whether the declaration counts in the build: dependencies for development do, or it isn't one, and it applies on the host or on a target.
abbrev pub counts : SettingsText → DeclarationText → Bool
counts s d = (not (is_development d.kind) || needs_development s.choice) && (admits s.host d.platform || admits_any s.targets d.platform)

-- Whether the feature is on in the package that the declaration leads to from the target side. A package with any target that is a
-- procedural macro, also an example, is looked at on the host side.
abbrev pub leads_on : TargetRules → Text → DeclarationText → Bool
leads_on r feature d =
    option_map_or (λ q. is_on r.on (lands r.settings.split d (has_macro r.packages q) Target) q (named feature)) d.leads_to false

-- Whether the declaration has the name and is followed.
abbrev pub is_of : TargetRules → ℕ → Text → DeclarationText → Bool
is_of r p name d = bytes_eq d.name name && is_followed r p d

-- Whether a declaration with the name, which is followed and counts, also leads to this package.
abbrev pub counts_for : TargetRules → ℕ → Text → List DeclarationText → Option ℕ → Bool
counts_for r p name ds to = list_any (λ d. is_of r p name d && counts r.settings d && both_lead_to to d.leads_to) ds

-- Whether a feature that a target of package `p` requires is on, looked at on the target side. A feature of a dependency must be on in a
-- package to which a declaration that counts leads.
abbrev pub is_met : TargetRules → ℕ → PackageText → Text → Bool
is_met r p x need = elim (item_of need) [
  | slash_item name feature weak ↦ list_any (λ d. is_of r p name d && leads_on r feature d && counts_for r p name x.declarations d.leads_to) x.declarations
  | _ ↦ is_on r.on Target p (named need)
]

-- Whether all features that a target of package `p` requires are on.
abbrev pub are_met : TargetRules → ℕ → PackageText → TargetText → Bool
are_met r p x t = list_all (is_met r p x) t.required_features

-- Whether a target of package `p` is built.
abbrev pub is_built : TargetRules → ℕ → PackageText → TargetText → Bool
is_built r p x t = is_chosen r.settings.choice t && are_met r p x t

-- Whether the target is a procedural macro, if `macros`, or else isn't one; and, if `dev`, is built with the dependencies for development.
abbrev pub is_start : TargetChoiceText → Bool → Bool → TargetText → Bool
is_start c dev macros t = (if macros then is_macro_target t else not (is_macro_target t)) && (not dev || is_with_development c t)

-- Whether such a target is built.
abbrev pub builds : TargetRules → Bool → Bool → ℕ → PackageText → Bool
builds r dev macros p x = list_any (λ t. is_start r.settings.choice dev macros t && is_built r p x t) x.targets

-- Whether a word for a name chooses the target of package `p`, and a feature that it requires isn't on.
abbrev pub is_unmet : TargetRules → ℕ → PackageText → TargetText → Bool
is_unmet r p x t = is_by_name r.settings.choice t && not (are_met r p x t)
