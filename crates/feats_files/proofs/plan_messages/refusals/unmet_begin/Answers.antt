use Rattle.std.proofs.Common.{◌≡◌, IfOk, codes, subst, ◌∷◌, []}
use Rattle.std.specs.String.{string_bytes}
use Rattle.cargo_workspaces.specs.WorkspaceView.{workspace_text}
use Rattle.cargo_workspaces.specs.Workspaces.{Text}
use Rattle.feats_files.specs.Messages.{joined}
use Rattle.feats_files.specs.Platforms.{id_at}
use Rattle.feats_files.proofs.plan_messages.refusals.unmet_begin.Goals as goal

-- the begin of the message, by the name of the target and the id of its package
abbrev begin : Text → Text → Text
begin name id = joined (codes "the target `" ∷ name ∷ codes "` of package " ∷ id ∷ codes " requires features, and not all are on: add --features for" ∷ [])

pub returns : goal.returns
returns c =
    subst (λ name. IfOk c.text_of.result (λ text. string_bytes text ≡ begin name (id_at (workspace_text c.args.workspace.now).packages c.args.«package»))) c.target_name.ensures
    (subst (λ id. IfOk c.text_of.result (λ text. string_bytes text ≡ begin c.target_name.result.now id)) c.id_at.ensures c.text_of.ensures)
