use Rattle.std.proofs.Common.{◌∙◌, ◌++◌, ◌∷◌, [], List, Option, ap, map}
use Rattle.std.specs.Borrow.{Bor}
use Rattle.std.specs.Option.{option_map_or}
use Rattle.cargo_workspaces.specs.Views.{package_text, texts}
use Rattle.cargo_workspaces.specs.Workspaces.{PackageText, Text}
use Rattle.feats_duplicate_lines.specs.Shown.{alone}
use Rattle.feats_duplicate_lines.specs.Views.{shown_text}
use Rattle.feats_duplicate_lines.proofs.Lists.{nothing}
use Rattle.feats_lines.proofs.Tokens.{on_ok}
use Rattle.feats_duplicate_lines.proofs.alone.push_row.Goals as goal

pub returns-in-Some : goal.returns-in-Some
returns-in-Some c =
    let old = map shown_text c.args.shown.now.items in
    let x = package_text c.args.«package».now in
    let place = c.args.place.now in
    on_ok c.push_shown.result c.push_shown.ensures (λ grown. grown
    ∙ ap (λ (fs : List (Bor Text)). old ++ alone x place (package_text c.in-Some.member.now) (texts fs) ∷ []) c.deref.ensures.value
    ∙ ap (λ (o : Option PackageText). old ++ option_map_or (λ m. alone x place m (texts c.args.row.unit.now.features.items) ∷ []) o []) c.in-Some.ensures)

pub returns-in-None : goal.returns-in-None
returns-in-None c =
    nothing _ _ (ap (λ (o : Option PackageText). option_map_or (λ m. alone (package_text c.args.«package».now) c.args.place.now m (texts c.args.row.unit.now.features.items) ∷ []) o []) c.in-None.ensures)
