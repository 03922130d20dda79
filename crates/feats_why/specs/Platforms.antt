-- The platform specs by which a package depends on another one.
use Rattle.std.specs.Prelude.{ℕ, List, [], ◌∷◌, ◌++◌, map, fold, Bool, false, not, ◌&&◌, ◌||◌, Option, None, Some, is_none, slice_get, if◌then◌else◌}
use Rattle.std.specs.List.{list_any}
use Rattle.std.specs.Option.{option_map_or}
use Rattle.std.specs.Str.{bytes_eq}
use Rattle.cargo_workspaces.specs.Workspaces.{Text, DeclarationText, PackageText, both_lead_to}
use Rattle.plan_rows.specs.Steps.{applies_on, is_development, is_host, is_macro, lands}
use Rattle.plan_rows.specs.declared.side.Side.{Side}
use Rattle.feats_why.specs.Relations.{is_by_declaration, relation_from}
use Rattle.feats_why.specs.Settings.{SettingsText}
use Rattle.plan_whys.specs.Steps.{SpotText}

-- Whether both are the same side.
abbrev pub is_same_side : Side → Side → Bool
is_same_side a b = if is_host a then is_host b else not (is_host b)

-- Whether the declaration leads from its package, at `start`, to the package at `at`, which is or isn't a procedural macro. A declaration
-- for development counts if tests are built; an optional one is counted as the others are.
abbrev pub leads_to_spot : SettingsText → Bool → SpotText → SpotText → DeclarationText → Bool
leads_to_spot s macro start at d =
    both_lead_to d.leads_to (Some at.number)
    && is_same_side (lands s.split d macro start.side) at.side
    && (not (is_development d.kind) || s.development)
    && applies_on s.host s.targets start.side d

-- The platform of a declaration that passes the test.
abbrev pub platform_if : (DeclarationText → Bool) → DeclarationText → Option Text
platform_if test d = if test d then d.platform else None

-- Whether a declaration passes the test and is for every platform.
abbrev pub is_anywhere : (DeclarationText → Bool) → DeclarationText → Bool
is_anywhere test d = test d && is_none d.platform

-- The text after the others, if it isn't one of them.
abbrev pub with_text : List Text → Option Text → List Text
with_text texts None = texts
with_text texts (Some text) = if list_any (bytes_eq text) texts then texts else texts ++ text ∷ []

-- The platforms of the declarations that pass the test, each once; none, if one of them is for every platform.
abbrev pub platforms_by : (DeclarationText → Bool) → List DeclarationText → List Text
platforms_by test ds = if list_any (is_anywhere test) ds then [] else fold with_text [] (map (platform_if test) ds)

-- The platforms for which the package of `start` depends on the package of `at`. Without sides platforms don't count.
abbrev pub platforms_between : SettingsText → List PackageText → SpotText → SpotText → List Text
platforms_between s packages start at =
    option_map_or (λ p. platforms_by (leads_to_spot s (is_macro packages at.number) start at) p.declarations) (slice_get packages start.number) []

abbrev pub shown_platforms : SettingsText → List PackageText → SpotText → SpotText → List Text
shown_platforms s packages start at = if s.split && is_by_declaration (relation_from start at) then platforms_between s packages start at else []
