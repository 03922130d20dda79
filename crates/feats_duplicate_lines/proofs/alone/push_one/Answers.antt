use Rattle.std.proofs.Common.{◌∙◌, ◌++◌, [], Bool, List, Option, ap, map}
use Rattle.std.specs.Option.{option_map_or}
use Rattle.cargo_workspaces.specs.Views.{package_text, texts}
use Rattle.cargo_workspaces.specs.Workspaces.{PackageText, Text}
use Rattle.feats_duplicates.specs.Views.{alone_text, member_unit_text}
use Rattle.feats_duplicates.specs.declared.member_units.MemberUnit.{MemberUnit}
use Rattle.feats_duplicates.specs.Disagreements.{is_agreed}
use Rattle.feats_duplicates.specs.DisagreementViews.{disagreement_text}
use Rattle.feats_duplicate_lines.specs.Shown.{alone_lines, place_name}
use Rattle.feats_duplicate_lines.specs.Views.{shown_text}
use Rattle.feats_duplicate_lines.proofs.Lists.{nothing}
use Rattle.feats_lines.proofs.Tokens.{on_ok}
use Rattle.feats_duplicate_lines.proofs.alone.push_one.Goals as goal

pub returns-in-Some : goal.returns-in-Some
returns-in-Some c =
    let old = map shown_text c.args.shown.now.items in
    let packages = map package_text c.args.packages.now in
    let x = package_text c.in-Some.«package».now in
    let place = place_name (texts c.args.names.now) c.args.alone.now.place in
    let rows = map member_unit_text c.args.alone.now.units.items in
    let agreed = is_agreed (map disagreement_text c.args.disagreements.now) (alone_text c.args.alone.now) in
    on_ok c.push_group.result c.push_group.ensures (λ grown. grown
    ∙ ap (λ (b : Bool). old ++ alone_lines packages c.place_name-place.result.now (map member_unit_text c.deref.result.now) b x) c.is_agreed-agrees.ensures
    ∙ ap (λ (p : Text). old ++ alone_lines packages p (map member_unit_text c.deref.result.now) agreed x) c.place_name-place.ensures
    ∙ ap (λ (units : List MemberUnit). old ++ alone_lines packages place (map member_unit_text units) agreed x) c.deref.ensures.value
    ∙ ap (λ (o : Option PackageText). old ++ option_map_or (alone_lines packages place rows agreed) o []) c.in-Some.ensures)

pub returns-in-None : goal.returns-in-None
returns-in-None c =
    let packages = map package_text c.args.packages.now in
    let place = place_name (texts c.args.names.now) c.args.alone.now.place in
    let agreed = is_agreed (map disagreement_text c.args.disagreements.now) (alone_text c.args.alone.now) in
    nothing _ _ (ap (λ (o : Option PackageText). option_map_or (alone_lines packages place (map member_unit_text c.args.alone.now.units.items) agreed) o []) c.in-None.ensures)
