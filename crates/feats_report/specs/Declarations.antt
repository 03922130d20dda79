-- The declarations by which packages that are built lead to packages that are built.
use Rattle.std.specs.Prelude.{ℕ, List, [], ◌∷◌, ◌++◌, Bool, Option, None, if◌then◌else◌, codes, flat_map, option_and_then, slice_get}
use Rattle.std.specs.Option.{option_map_or}
use Rattle.json.specs.Token.{Token, begin_object}
use Rattle.cargo_workspaces.specs.Workspaces.{DeclarationText, PackageText, Text}
use Rattle.cargo_plans.specs.built_parts.Built.{is_built}
use Rattle.cargo_plans.specs.plan_starts.Lists.{joined_from}
use Rattle.cargo_plans.specs.plan_steps.Plans.{PlanText}
use Rattle.plan_rows.specs.declared.side.Side.{Side}
use Rattle.feats_lines.specs.Kinds.{kind_word}
use Rattle.feats_lines.specs.parts.Members.{flag_member, object_line, optional_member, text_member, texts_member}
use Rattle.feats_report.specs.Features.{is_anywhere}

-- When the declaration counts.
abbrev pub condition_members : DeclarationText → List Token
condition_members d =
    text_member (codes "kind") (kind_word d.kind) ++ (flag_member (codes "optional") d.optional ++ optional_member (codes "platform") d.platform)

-- What the declaration asks for.
abbrev pub asked_members : DeclarationText → List Token
asked_members d = flag_member (codes "default-features") d.default_features ++ texts_member (codes "features") d.features

-- Package `x` declares `d`, which leads to package `y`.
abbrev pub members : PackageText → DeclarationText → PackageText → List Token
members x d y =
    text_member (codes "package") x.id
    ++ (text_member (codes "dependency") d.name ++ (condition_members d ++ (asked_members d ++ text_member (codes "to") y.id)))

abbrev pub line_of : PackageText → DeclarationText → PackageText → Text
line_of x d y = object_line (begin_object ∷ members x d y)

-- Package `p`, if it is built on one of the sides. `builds side p` is whether it is built on a side.
abbrev pub built_package : (Side → ℕ → Bool) → List PackageText → ℕ → Option PackageText
built_package builds packages p = if is_anywhere builds p then slice_get packages p else None

-- The package to which the declaration leads, if it is built.
abbrev pub target_of : (Side → ℕ → Bool) → List PackageText → DeclarationText → Option PackageText
target_of builds packages d = option_and_then (built_package builds packages) d.leads_to

-- The line of a declaration of the package, if it leads to a package that is built.
abbrev pub declaration_line : (Side → ℕ → Bool) → List PackageText → PackageText → DeclarationText → Text
declaration_line builds packages x d = option_map_or (line_of x d) (target_of builds packages d) []

-- The lines of the declarations of package `p`, if it is built.
abbrev pub package_lines : (Side → ℕ → Bool) → List PackageText → ℕ → PackageText → Text
package_lines builds packages p x = if is_anywhere builds p then flat_map (declaration_line builds packages x) x.declarations else []

-- The lines of all packages, in the order of their numbers.
abbrev pub declarations_of : (Side → ℕ → Bool) → List PackageText → Text
declarations_of builds packages = joined_from (package_lines builds packages) 0 packages

-- The lines of the declarations of the packages that the plan builds.
abbrev pub built_declarations : Bool → List PackageText → PlanText → Text
built_declarations split packages plan = declarations_of (is_built split plan.units) packages
