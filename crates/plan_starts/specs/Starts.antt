-- The entries at which step `built` starts.
use Rattle.std.specs.Prelude.{ℕ, ◌+◌, zero, suc, List, [], ◌∷◌, ◌++◌, map, Bool, true, false, not, ◌&&◌, ◌||◌, ◌==◌, if◌then◌else◌, Option, Some, None, slice_get, option_map}
use Rattle.std.specs.List.{list_any}
use Rattle.std.specs.Option.{option_map_or}
use Rattle.feature_labels.specs.Names.{LabelName}
use Rattle.feature_labels.specs.Names.LabelName.{base}
use Rattle.cargo_workspaces.specs.Workspaces.{PackageText, TargetText, WorkspaceText, is_proc_macro}
use Rattle.plan_rows.specs.Steps.{is_development, side_of}
use Rattle.plan_rows.specs.Tables.{each_from, flag_at}
use Rattle.plan_rows.specs.declared.side.Side.{Side}
use Rattle.plan_rows.specs.declared.side.Side.TheVariants.{Target}
use Rattle.plan_starts.specs.Lists.{first_from, first_some, joined_from}
use Rattle.plan_starts.specs.PackageVisits.{PairVisit, is_on}
use Rattle.plan_starts.specs.Targets.{TargetRules, builds, is_unmet}

-- Whether the number is in the list.
abbrev pub is_among : List ℕ → ℕ → Bool
is_among numbers k = list_any (λ n. n == k) numbers

-- Whether each package starts, by its number: with a target that is a procedural macro, with another one, and on the host. A package
-- that is a procedural macro also starts on the host if another target of it does on a target platform. The next two are the same as
-- the first two, for targets that are built with the dependencies for development. The last is the first target that is chosen by its
-- name and whose required features aren't on: its package and its place there.
pub record Starts : Type 0 where
  pub macros : List Bool
  pub others : List Bool
  pub hosts : List Bool
  pub dev_macros : List Bool
  pub dev_others : List Bool
  pub unmet : Option (ℕ × ℕ)

-- Whether selected packages have such a target.
abbrev pub started : TargetRules → List ℕ → Bool → Bool → List Bool
started r selected dev macros = each_from (λ p x. is_among selected p && builds r dev macros p x) 0 r.packages

-- Whether the package starts on the host.
abbrev pub starts_on_host : List Bool → List Bool → ℕ → PackageText → Bool
starts_on_host macros others p x = flag_at macros p || flag_at others p && is_proc_macro x

-- The number of a target, with that of its package, if it is chosen by its name and a feature that it requires isn't on.
abbrev pub unmet_target : TargetRules → ℕ → PackageText → ℕ → TargetText → Option (ℕ × ℕ)
unmet_target r p x k t = if is_unmet r p x t then Some (p, k) else None

-- The first such target of package `p`, if it is selected.
abbrev pub unmet_at : TargetRules → List ℕ → ℕ → PackageText → Option (ℕ × ℕ)
unmet_at r selected p x = if is_among selected p then first_from (unmet_target r p x) 0 x.targets else None

-- The first such target of the selected packages.
abbrev pub first_unmet : TargetRules → List ℕ → Option (ℕ × ℕ)
first_unmet r selected = first_from (unmet_at r selected) 0 r.packages

abbrev pub starts_of : TargetRules → List ℕ → Starts
starts_of r selected = record {
  macros = started r selected false true;
  others = started r selected false false;
  hosts = each_from (starts_on_host (started r selected false true) (started r selected false false)) 0 r.packages;
  dev_macros = started r selected true true;
  dev_others = started r selected true false;
  unmet = first_unmet r selected;
}

abbrev pub times : ℕ → List Bool → List Bool
times zero flags = []
times (suc n) flags = flags ++ times n flags

-- Whether each entry starts: those of the host, then those of each of `targets` platforms.
abbrev pub start_flags : ℕ → Starts → List Bool
start_flags targets s = s.hosts ++ times targets s.others

-- Whether each entry starts with its dependencies for development. A package that starts on the host beside another target doesn't.
abbrev pub dev_flags : ℕ → Starts → List Bool
dev_flags targets s = s.dev_macros ++ times targets s.dev_others

-- The bases of the entries that start; the first flag is that of entry `k`.
abbrev pub bases_from : ℕ → List Bool → List (ℕ × LabelName)
bases_from k flags = joined_from (λ k flag. if flag then (k, base) ∷ [] else []) k flags

abbrev pub bases_of : List Bool → List (ℕ × LabelName)
bases_of flags = bases_from 0 flags

abbrev pub start_places : ℕ → Starts → List (ℕ × LabelName)
start_places targets s = bases_of (start_flags targets s)

-- The side on which package `p` starts and isn't on, if there is one: the host's place first.
abbrev pub missing_side : Bool → PairVisit → Starts → ℕ → Option Side
missing_side split on s p =
    if flag_at s.macros p && not (is_on on (side_of split true) p base) then Some (side_of split true)
    else if flag_at s.others p && not (is_on on Target p base) then Some Target
    else None

-- The package with the side.
abbrev pub missing_at : Bool → PairVisit → Starts → ℕ → PackageText → Option (ℕ × Side)
missing_at split on s p x = option_map (λ side. (p, side)) (missing_side split on s p)

-- The first of the packages that starts on a side where it isn't on.
abbrev pub first_missing : Bool → PairVisit → Starts → List PackageText → Option (ℕ × Side)
first_missing split on s packages = first_from (missing_at split on s) 0 packages

-- Whether tests of package `p` need dependencies for development that aren't there: they count for members alone.
abbrev pub lacks_tests : WorkspaceText → ℕ → Bool
lacks_tests w p = not (is_among w.members p) && option_map_or (λ x. list_any (λ d. is_development d.kind) x.declarations) (slice_get w.packages p) false

-- The first of the selected packages whose tests can't be built.
abbrev pub first_without_tests : WorkspaceText → List ℕ → Option ℕ
first_without_tests w selected = first_some (λ p. if lacks_tests w p then Some p else None) selected
