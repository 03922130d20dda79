use Rattle.std.proofs.Common.{◌∙◌, ◌++◌, ◌∷◌, [], ℕ, List, Option, ap, map}
use Rattle.std.specs.Option.{option_map_or}
use Rattle.cargo_workspaces.specs.Views.{package_text}
use Rattle.cargo_workspaces.specs.Workspaces.{PackageText}
use Rattle.feats_duplicate_lines.specs.Shown.{packages_at, version}
use Rattle.feats_duplicate_lines.specs.Views.{shown_text}
use Rattle.feats_duplicate_lines.proofs.Lists.{nothing}
use Rattle.feats_lines.proofs.Tokens.{on_ok}
use Rattle.feats_duplicate_lines.proofs.listed.push_version.Goals as goal

pub returns-in-Some : goal.returns-in-Some
returns-in-Some c =
    let old = map shown_text c.args.shown.now.items in
    let packages = map package_text c.args.packages.now in
    let dependents = c.args.version.now.dependents.items in
    on_ok c.push_depended.result c.push_depended.ensures (λ grown. grown
    ∙ ap (λ (ns : List ℕ). old ++ version (package_text c.in-Some.«package».now) (packages_at packages ns) ∷ []) c.deref.ensures.value
    ∙ ap (λ (o : Option PackageText). old ++ option_map_or (λ x. version x (packages_at packages dependents) ∷ []) o []) c.in-Some.ensures)

pub returns-in-None : goal.returns-in-None
returns-in-None c =
    nothing _ _ (ap (λ (o : Option PackageText). option_map_or (λ x. version x (packages_at (map package_text c.args.packages.now) c.args.version.now.dependents.items) ∷ []) o []) c.in-None.ensures)
