use Rattle.std.proofs.Common.{◌∙◌, ◌++◌, ◌∷◌, [], Option, ap, map}
use Rattle.std.specs.Option.{option_map_or}
use Rattle.cargo_workspaces.specs.Workspaces.{PackageText}
use Rattle.feats_duplicate_lines.specs.Shown.{refused}
use Rattle.feats_duplicate_lines.specs.Views.{shown_text}
use Rattle.feats_duplicate_lines.proofs.Lists.{nothing}
use Rattle.feats_lines.proofs.Tokens.{on_ok}
use Rattle.feats_duplicate_lines.proofs.listed.push_refusal.Goals as goal

pub returns-in-Some : goal.returns-in-Some
returns-in-Some c = on_ok c.push_shown.result c.push_shown.ensures (λ grown. grown ∙ ap (λ (o : Option PackageText). map shown_text c.args.shown.now.items ++ option_map_or (λ x. refused x c.args.message.now ∷ []) o []) c.in-Some.ensures)

pub returns-in-None : goal.returns-in-None
returns-in-None c = nothing _ _ (ap (λ (o : Option PackageText). option_map_or (λ x. refused x c.args.message.now ∷ []) o []) c.in-None.ensures)
