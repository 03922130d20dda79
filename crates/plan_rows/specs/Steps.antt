-- The tables of the three steps of a plan: which optional dependencies version resolving turns on (`resolved`), which features are
-- on (`on`), and what is built (`built`). `count` is the number of packages. An entry's number is that of its package, plus the
-- number at which its place begins.
use Rattle.std.specs.Prelude.{ℕ, ◌+◌, List, [], ◌∷◌, ◌++◌, map, Bool, true, false, not, ◌&&◌, ◌||◌, Option, Some, None, codes, length, option_map, option_and_then, slice_get, if◌then◌else◌, flat_map}
use Rattle.std.specs.List.{filter_map, list_any}
use Rattle.std.specs.Option.{option_map_or}
use Rattle.guppy_packages.specs.Items.{Item, feature_item, optional_item, slash_item, item_of}
use Rattle.cargo_workspaces.specs.Workspaces.{Text, FeatureText, DeclarationText, PackageText, WorkspaceText, is_proc_macro, has_script}
use Rattle.cargo_workspaces.specs.declared.package.Kind.{Kind}
use Rattle.cargo_workspaces.specs.declared.package.Kind.TheVariants as kind
use Rattle.plan_words.specs.TargetChoices.{TargetChoiceText, needs_development}
use Rattle.plan_rows.specs.Commands.{command_of, is_started}
use Rattle.plan_rows.specs.Tables.{Dependency, Entry, each_from, flag_at}
use Rattle.plan_rows.specs.declared.side.Side.{Side}
use Rattle.plan_rows.specs.declared.side.Side.TheVariants.{Target, Host}

-- What a plan is made of, besides the workspace: whether the resolver tells sides apart (2 and 3), which targets are chosen, the command
-- features, and on which platform specs the host and each of the target platforms are.
pub record SettingsText : Type 0 where
  pub split : Bool
  pub choice : TargetChoiceText
  pub commands : List (Option FeatureText)
  pub host : Text → Bool
  pub targets : List (Text → Bool)

abbrev pub is_build : Kind → Bool
is_build kind.Normal = false
is_build kind.Build = true
is_build kind.Development = false

abbrev pub is_development : Kind → Bool
is_development kind.Normal = false
is_development kind.Build = false
is_development kind.Development = true

-- Whether a declaration with this platform applies where these specs hold.
abbrev pub admits : (Text → Bool) → Option Text → Bool
admits holds platform = option_map_or holds platform true

-- Whether it applies where one of these lists of specs holds.
abbrev pub admits_any : List (Text → Bool) → Option Text → Bool
admits_any targets platform = list_any (λ holds. admits holds platform) targets

-- Whether package `p` is a procedural macro for those that depend on it.
abbrev pub is_macro : List PackageText → ℕ → Bool
is_macro packages p = option_map_or is_proc_macro (slice_get packages p) false

-- Whether each package is a procedural macro.
abbrev pub macros_of : List PackageText → List Bool
macros_of packages = map is_proc_macro packages

-- The dependency by which the declaration leads to entry `to`.
abbrev pub dependency_to : DeclarationText → ℕ → Dependency
dependency_to d to = record { name = d.name; to = to; optional = d.optional; default_features = d.default_features; features = d.features }

-- The same, which asks for no features and is required.
abbrev pub plain_dependency : DeclarationText → ℕ → Dependency
plain_dependency d to = record { name = d.name; to = to; optional = false; default_features = false; features = [] }

-- The dependency that asks for no features, if `plain`, and else the declared one.
abbrev pub dependency_as : Bool → DeclarationText → ℕ → Dependency
dependency_as true = plain_dependency
dependency_as false = dependency_to

-- The entry that a declaration leads to: `lead d q` is its number, if it has one, where `q` is the package which `d` leads to.
abbrev pub lead_by : (DeclarationText → ℕ → Option ℕ) → DeclarationText → Option ℕ
lead_by lead d = option_and_then (lead d) d.leads_to

-- The dependencies of the declarations that lead to an entry.
abbrev pub dependencies_by : Bool → (DeclarationText → ℕ → Option ℕ) → List DeclarationText → List Dependency
dependencies_by plain lead ds = filter_map (λ d. option_map (dependency_as plain d) (lead_by lead d)) ds

-- The command feature as a list.
abbrev pub command_list : Option FeatureText → List FeatureText
command_list None = []
command_list (Some f) = f ∷ []

-- The number, if the test holds.
abbrev pub number_if : Bool → ℕ → Option ℕ
number_if test number = if test then Some number else None

-- Step `resolved`. Entries: each package as a dependency of others, then each package as a started one.

-- The optional dependency that an item waits for.
abbrev pub gate_of : Item → List Text
gate_of (feature_item f) = []
gate_of (optional_item name) = []
gate_of (slash_item name feature true) = (codes "dep:" ++ name) ∷ []
gate_of (slash_item name feature false) = []

-- The items, with the optional dependency before each item that waits for one.
abbrev pub with_gates : List Text → List Text
with_gates items = flat_map (λ item. gate_of (item_of item) ++ item ∷ []) items

abbrev pub gated_feature : FeatureText → FeatureText
gated_feature f = record { name = f.name; items = with_gates f.items }

-- Another package's dependency is no dependency for development.
abbrev pub resolved_lead : Bool → DeclarationText → ℕ → Option ℕ
resolved_lead started d q = number_if (started || not (is_development d.kind)) q

abbrev pub other_entry : ℕ → PackageText → Entry
other_entry p x = record { features = map gated_feature x.features; dependencies = dependencies_by false (resolved_lead false) x.declarations }

-- What a started package has; nothing, if the package isn't started.
abbrev pub started_entry : Option FeatureText → PackageText → Entry
started_entry None x = record { features = []; dependencies = [] }
started_entry (Some command) x = record {
  features = map gated_feature x.features ++ gated_feature command ∷ [];
  dependencies = dependencies_by false (resolved_lead true) x.declarations;
}

abbrev pub resolved_entries : WorkspaceText → SettingsText → List Entry
resolved_entries w s =
    each_from other_entry 0 w.packages ++ each_from (λ p x. started_entry (command_of s.commands p) x) 0 w.packages

-- Step `on`. Entries: each package on the target side; if sides are told apart, then each package on the host side.

-- The side on which the declaration leads to a package that is, or isn't, a procedural macro.
abbrev pub lands : Bool → DeclarationText → Bool → Side → Side
lands split d macro side = if split && (is_build d.kind || macro) then Host else side

-- The number at which a side begins.
abbrev pub side_base : ℕ → Side → ℕ
side_base count Target = 0
side_base count Host = count

abbrev pub is_host : Side → Bool
is_host Target = false
is_host Host = true

-- Whether the declaration applies for a package on the side: one for builds on the host, another on the side's platforms.
abbrev pub applies_on : (Text → Bool) → List (Text → Bool) → Side → DeclarationText → Bool
applies_on host targets side d = if is_build d.kind || is_host side then admits host d.platform else admits_any targets d.platform

-- Whether the declaration of package `p` counts on the side. `kept p name` is whether version resolving turned on the optional
-- dependency `name` of `p`.
abbrev pub admitted : SettingsText → (ℕ → Text → Bool) → ℕ → Side → DeclarationText → Bool
admitted s kept p side d =
    (not d.optional || kept p d.name)
    && (not (is_development d.kind) || is_started s.commands p && (needs_development s.choice || not s.split))
    && (not s.split || applies_on s.host s.targets side d)

abbrev pub on_lead : List Bool → SettingsText → (ℕ → Text → Bool) → Side → ℕ → DeclarationText → ℕ → Option ℕ
on_lead macros s kept side p d q =
    number_if (admitted s kept p side d) (side_base (length macros) (lands s.split d (flag_at macros q) side) + q)

abbrev pub on_entry : List Bool → SettingsText → (ℕ → Text → Bool) → Side → ℕ → PackageText → Entry
on_entry macros s kept side p x = record {
  features = x.features ++ command_list (command_of s.commands p);
  dependencies = dependencies_by false (on_lead macros s kept side p) x.declarations;
}

abbrev pub on_side : List PackageText → SettingsText → (ℕ → Text → Bool) → Side → List Entry
on_side packages s kept side = each_from (on_entry (macros_of packages) s kept side) 0 packages

-- The entries of the host side, if sides are told apart.
abbrev pub host_entries : List PackageText → SettingsText → (ℕ → Text → Bool) → List Entry
host_entries packages s kept = if s.split then on_side packages s kept Host else []

abbrev pub on_entries : WorkspaceText → SettingsText → (ℕ → Text → Bool) → List Entry
on_entries w s kept = on_side w.packages s kept Target ++ host_entries w.packages s kept

-- Step `built`. Entries: each package on the host, then each package on each of the target platforms.

-- The side of a place.
abbrev pub side_of : Bool → Bool → Side
side_of split at_host = if split && at_host then Host else Target

-- Whether a declaration of package `p` is used at the place that begins at `base`, on whose platform `holds`. `turned_on side p name`
-- is whether the optional dependency `name` of `p` is on, `with_dev k` whether entry `k` is started with its dependencies for
-- development.
abbrev pub used : SettingsText → (ℕ → Text → Bool) → (ℕ → Bool) → ℕ → (Text → Bool) → Bool → ℕ → DeclarationText → Bool
used s turned_on with_dev base holds script p d =
    (not (is_development d.kind) || with_dev (base + p))
    && (not (is_build d.kind) || script)
    && (not d.optional || turned_on p d.name)
    && (if is_build d.kind then admits s.host d.platform else admits holds d.platform)

-- The place to which the declaration leads: the host's begins at 0.
abbrev pub place_to : ℕ → DeclarationText → Bool → ℕ
place_to base d macro = if is_build d.kind || macro then 0 else base

abbrev pub built_lead : List Bool → SettingsText → (ℕ → Text → Bool) → (ℕ → Bool) → ℕ → (Text → Bool) → Bool → ℕ → DeclarationText → ℕ → Option ℕ
built_lead macros s turned_on with_dev base holds script p d q =
    number_if (used s turned_on with_dev base holds script p d) (place_to base d (flag_at macros q) + q)

abbrev pub built_entry : List Bool → SettingsText → (ℕ → Text → Bool) → (ℕ → Bool) → ℕ → (Text → Bool) → ℕ → PackageText → Entry
built_entry macros s turned_on with_dev base holds p x = record {
  features = [];
  dependencies = dependencies_by true (built_lead macros s turned_on with_dev base holds (has_script x) p) x.declarations;
}

-- The entries of the place that begins at `base`.
abbrev pub built_place : List PackageText → SettingsText → (ℕ → Text → Bool) → (ℕ → Bool) → ℕ → (Text → Bool) → List Entry
built_place packages s turned_on with_dev base holds = each_from (built_entry (macros_of packages) s turned_on with_dev base holds) 0 packages

-- The entries of target platforms, the first of which begins at `base`.
abbrev pub built_from : List PackageText → SettingsText → (Side → ℕ → Text → Bool) → (ℕ → Bool) → ℕ → List (Text → Bool) → List Entry
built_from packages s turned_on with_dev base [] = []
built_from packages s turned_on with_dev base (holds ∷ more) =
    built_place packages s (turned_on Target) with_dev base holds ++ built_from packages s turned_on with_dev (base + length packages) more

abbrev pub built_entries : WorkspaceText → SettingsText → (Side → ℕ → Text → Bool) → (ℕ → Bool) → List Entry
built_entries w s turned_on with_dev =
    built_place w.packages s (turned_on (side_of s.split true)) with_dev 0 s.host ++ built_from w.packages s turned_on with_dev (length w.packages) s.targets
