-- Optional dependencies that are asked for, and for which the document has no package.
use Rattle.std.specs.Prelude.{ℕ, List, Bool, true, false, not, ◌&&◌, ◌||◌, if◌then◌else◌, Option, Some, None, option_and_then, option_map}
use Rattle.std.specs.List.{list_any}
use Rattle.std.specs.Option.{is_some, option_or}
use Rattle.std.specs.Str.{bytes_eq}
use Rattle.plan_starts.specs.guppy_packages.Items.{Item, feature_item, optional_item, slash_item, item_of}
use Rattle.plan_starts.specs.feature_labels.Names.LabelName.{named}
use Rattle.cargo_workspaces.specs.Workspaces.{Text, DeclarationText, FeatureText, PackageText}
use Rattle.plan_rows.specs.Commands.{command_of}
use Rattle.plan_rows.specs.declared.side.Side.TheVariants.{Target, Host}
use Rattle.plan_starts.specs.Lists.{first_from, first_some}
use Rattle.plan_starts.specs.PackageVisits.{PairVisit, is_on}

-- The optional dependency that an item asks for. An item that waits for one asks for none.
abbrev pub asked : Item → Option Text
asked (feature_item name) = None
asked (optional_item name) = Some name
asked (slash_item name feature true) = None
asked (slash_item name feature false) = Some name

-- An optional declaration that leads to no package.
abbrev pub is_absent : DeclarationText → Bool
is_absent d = d.optional && not (is_some d.leads_to)

-- The name, if it is that of an optional declaration which leads to no package.
abbrev pub absent_name : List DeclarationText → Text → Option Text
absent_name ds name = if list_any (λ d. is_absent d && bytes_eq d.name name) ds then Some name else None

-- The same of the dependency that an item asks for.
abbrev pub absent_of : List DeclarationText → Text → Option Text
absent_of ds item = option_and_then (absent_name ds) (asked (item_of item))

-- Whether a feature of package `p` is on, on a side.
abbrev pub is_on_anywhere : PairVisit → ℕ → Text → Bool
is_on_anywhere on p name = is_on on Target p (named name) || is_on on Host p (named name)

-- What the items of a feature ask for, if it is on.
abbrev pub lack_of_feature : PairVisit → ℕ → List DeclarationText → FeatureText → Option Text
lack_of_feature on p ds f =
    if is_on_anywhere on p f.name then first_some (absent_of ds) f.items else None

-- The first optional dependency of a package that is asked for, and leads to no package: by a feature, or by the command feature.
abbrev pub lack_of_package : PairVisit → ℕ → PackageText → Option FeatureText → Option Text
lack_of_package on p x command =
    if list_any is_absent x.declarations then
    option_or (first_some (lack_of_feature on p x.declarations) x.features) (option_and_then (lack_of_feature on p x.declarations) command)
    else None

-- The package with the dependency's name.
abbrev pub lacking_at : PairVisit → List (Option FeatureText) → ℕ → PackageText → Option (ℕ × Text)
lacking_at on commands p x = option_map (λ name. (p, name)) (lack_of_package on p x (command_of commands p))

-- The first package that lacks an optional dependency.
abbrev pub first_lacking : PairVisit → List (Option FeatureText) → List PackageText → Option (ℕ × Text)
first_lacking on commands packages = first_from (lacking_at on commands) 0 packages
