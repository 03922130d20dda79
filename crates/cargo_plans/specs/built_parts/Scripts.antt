-- The build script that a package lacks, where that is why another one isn't built. `built side p label` is whether a part of package
-- `p` is built, and `host` which platform specs hold on the host.
use Rattle.std.specs.Prelude.{ℕ, List, Bool, false, not, ◌&&◌, ◌||◌, Option, Some, None, nat_eq, if◌then◌else◌}
use Rattle.std.specs.List.{list_any}
use Rattle.std.specs.Option.{option_map_or}
use Rattle.feature_labels.specs.Names.{LabelName}
use Rattle.feature_labels.specs.Names.LabelName.{base, optional}
use Rattle.cargo_workspaces.specs.Workspaces.{Text, DeclarationText, PackageText, has_script}
use Rattle.plan_rows.specs.Steps.{admits, is_build}
use Rattle.plan_rows.specs.declared.side.Side.{Side}
use Rattle.plan_rows.specs.declared.side.Side.TheVariants.{Target, Host}
use Rattle.plan_starts.specs.Lists.{first_from}

-- Whether a declaration counts for a build script. `turned_on name` is whether the optional dependency `name` is built.
abbrev pub is_for_script : (Text → Bool) → (Text → Bool) → DeclarationText → Bool
is_for_script host turned_on d = is_build d.kind && (not d.optional || turned_on d.name) && admits host d.platform

abbrev pub is_towards : ℕ → DeclarationText → Bool
is_towards q d = option_map_or (λ n. nat_eq n q) d.leads_to false

-- Whether such a declaration leads to package `q`.
abbrev pub wants_by : (Text → Bool) → (Text → Bool) → ℕ → DeclarationText → Bool
wants_by host turned_on q d = is_for_script host turned_on d && is_towards q d

-- Whether a build script of package `p`, which is built on the side, would use package `q`.
abbrev pub wants_on : (Side → ℕ → LabelName → Bool) → (Text → Bool) → ℕ → Side → ℕ → PackageText → Bool
wants_on built host q side p x = built side p base && list_any (wants_by host (λ name. built side p (optional name)) q) x.declarations

-- Whether package `p` lacks a build script, for which it declares package `q`.
abbrev pub lacks_script : (Side → ℕ → LabelName → Bool) → (Text → Bool) → ℕ → ℕ → PackageText → Bool
lacks_script built host q p x = not (has_script x) && (wants_on built host q Target p x || wants_on built host q Host p x)

-- The first package that lacks a build script for package `q`.
abbrev pub lacking_script : (Side → ℕ → LabelName → Bool) → (Text → Bool) → List PackageText → ℕ → Option ℕ
lacking_script built host packages q = first_from (λ p x. if lacks_script built host q p x then Some p else None) 0 packages
