use Rattle.std.proofs.Common.{◌∙◌, ◌++◌, [], Option, ap, map}
use Rattle.std.specs.Option.{option_map_or}
use Rattle.cargo_workspaces.specs.Views.{texts}
use Rattle.cargo_workspaces.specs.Workspaces.{PackageText}
use Rattle.feats_duplicates.specs.Views.{placed_text}
use Rattle.feats_duplicate_lines.specs.Shown.{placed_as}
use Rattle.feats_duplicate_lines.specs.Views.{shown_text}
use Rattle.feats_duplicate_lines.proofs.Lists.{nothing}
use Rattle.feats_lines.proofs.Tokens.{on_ok}
use Rattle.feats_duplicate_lines.proofs.listed.push_package.Goals as goal

pub returns-in-Some : goal.returns-in-Some
returns-in-Some c = on_ok c.push_each.result c.push_each.ensures (λ grown. grown ∙ ap (λ (o : Option PackageText). map shown_text c.args.shown.now.items ++ option_map_or (λ x. map (placed_as (texts c.args.names.now) x) (map placed_text c.args.places.now)) o []) c.in-Some.ensures)

pub returns-in-None : goal.returns-in-None
returns-in-None c = nothing _ _ (ap (λ (o : Option PackageText). option_map_or (λ x. map (placed_as (texts c.args.names.now) x) (map placed_text c.args.places.now)) o []) c.in-None.ensures)
