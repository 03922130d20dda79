-- The packages of a workspace, as `cargo metadata` describes them.
use Rattle.std.specs.Prelude.{ℕ, List, Bool, true, false, Option, IsTrue, map, length, nat_eq, nat_lt, not, ◌&&◌, ◌||◌, codes}
use Rattle.std.specs.List.{list_all, list_any, starts_with, AllByRecursion, AllByRecursion-prop}
use Rattle.std.specs.List.Sorted.{IsStrictlySortedBy, IsStrictlySortedBy-prop}
use Rattle.std.specs.Option.{option_map_or}
use Rattle.std.specs.Ordering.{nat_cmp}
use Rattle.std.specs.Cmp.Lexicographic.{slice_cmp}
use Rattle.std.specs.Str.{bytes_eq}
use Rattle.std.specs.declared.cmp.Ordering.{Ordering}
use Rattle.std.proofs.Props.{props}
use Rattle.cargo_workspaces.specs.declared.package.Kind.{Kind}

abbrev pub Text : Type 0
Text = List ℕ

-- A named feature, and the items that it turns on.
pub record FeatureText : Type 0 where
  pub name : Text
  pub items : List Text

-- A dependency that a package declares: the name that the package's features call it by, and the number of the package that
-- it leads to, if any.
pub record DeclarationText : Type 0 where
  pub name : Text
  pub kind : Kind
  pub optional : Bool
  pub platform : Option Text
  pub default_features : Bool
  pub features : List Text
  pub leads_to : Option ℕ

pub record TargetText : Type 0 where
  pub name : Text
  pub kinds : List Text
  pub crate_types : List Text
  pub test : Bool
  pub doctest : Bool
  pub required_features : List Text

pub record PackageText : Type 0 where
  pub id : Text
  pub name : Text
  pub version : Text
  pub source : Option Text
  pub features : List FeatureText
  pub declarations : List DeclarationText
  pub targets : List TargetText

-- Packages are numbered from 0, in the order of `packages`.
pub record WorkspaceText : Type 0 where
  pub packages : List PackageText
  pub members : List ℕ
  pub default_members : List ℕ
  pub root : Option ℕ

-- Texts in the order of their bytes.
abbrev pub text_cmp : Text → Text → Ordering
text_cmp = slice_cmp nat_cmp

-- Whether the text may be the name of a feature: those that begin with `[` aren't features of Cargo.
abbrev pub may_name_feature : Text → Bool
may_name_feature name = not (starts_with nat_eq name (codes "["))

-- Whether both lead to one package.
abbrev pub both_lead_to : Option ℕ → Option ℕ → Bool
both_lead_to p q = option_map_or (λ a. option_map_or (nat_eq a) q false) p false

-- Whether `e` leads to the package that `d` leads to, by another name.
abbrev pub is_other_name : DeclarationText → DeclarationText → Bool
is_other_name d e = both_lead_to d.leads_to e.leads_to && not (bytes_eq e.name d.name)

-- Whether a number, if there is one, is below `count`.
abbrev pub is_within : ℕ → Option ℕ → Bool
is_within count p = option_map_or (λ n. nat_lt n count) p true

-- A package among `count`: its features are in the order of their names, and no name of theirs begins with `[`; its declarations
-- lead to some of the packages; those that lead to one package have one name.
abbrev pub IsPackage : ℕ → PackageText → Type 0
IsPackage count p =
    IsStrictlySortedBy text_cmp (map (λ f. f.name) p.features)
    × IsTrue (list_all (λ f. may_name_feature f.name) p.features)
    × IsTrue (list_all (λ d. is_within count d.leads_to) p.declarations)
    × IsTrue (list_all (λ d. not (list_any (is_other_name d) p.declarations)) p.declarations)

pub IsPackage-prop : (count : ℕ) (p : PackageText) → IsProp (IsPackage count p)
IsPackage-prop count p = let names : IsProp (IsStrictlySortedBy text_cmp (map (λ f. f.name) p.features)) = IsStrictlySortedBy-prop text_cmp _ in hlevel (props, names)

-- Packages are in the order of their ids; the numbers of members, of default members and of the root are those of packages.
abbrev pub IsWorkspace : WorkspaceText → Type 0
IsWorkspace w =
    IsStrictlySortedBy text_cmp (map (λ p. p.id) w.packages)
    × AllByRecursion (IsPackage (length w.packages)) w.packages
    × IsTrue (list_all (λ n. nat_lt n (length w.packages)) w.members)
    × IsTrue (list_all (λ n. nat_lt n (length w.packages)) w.default_members)
    × IsTrue (is_within (length w.packages) w.root)

pub IsWorkspace-prop : (w : WorkspaceText) → IsProp (IsWorkspace w)
IsWorkspace-prop w =
    let ids : IsProp (IsStrictlySortedBy text_cmp (map (λ p. p.id) w.packages)) = IsStrictlySortedBy-prop text_cmp _ in
    let packages : IsProp (AllByRecursion (IsPackage (length w.packages)) w.packages) = AllByRecursion-prop (IsPackage (length w.packages)) (IsPackage-prop (length w.packages)) w.packages in
    hlevel (props, ids, packages)

-- Whether targets of this kind are linked into the packages that depend on theirs.
abbrev pub is_library_kind : Text → Bool
is_library_kind s = bytes_eq s (codes "lib") || bytes_eq s (codes "rlib") || bytes_eq s (codes "dylib") || bytes_eq s (codes "cdylib") || bytes_eq s (codes "staticlib") || bytes_eq s (codes "proc-macro")

abbrev pub has_kind : Text → TargetText → Bool
has_kind kind t = list_any (bytes_eq kind) t.kinds

abbrev pub is_library : TargetText → Bool
is_library t = list_any is_library_kind t.kinds

-- Whether the target is a procedural macro, by its kind or by its crate types: a library or an example.
abbrev pub is_macro_target : TargetText → Bool
is_macro_target t = has_kind (codes "proc-macro") t || list_any (bytes_eq (codes "proc-macro")) t.crate_types

-- Whether a target of the package is a procedural macro.
abbrev pub has_macro_target : PackageText → Bool
has_macro_target p = list_any is_macro_target p.targets

-- Whether the package is a procedural macro for those that depend on it, and whether it has a build script.
abbrev pub is_proc_macro : PackageText → Bool
is_proc_macro p = list_any (has_kind (codes "proc-macro")) p.targets

abbrev pub has_script : PackageText → Bool
has_script p = list_any (has_kind (codes "custom-build")) p.targets
