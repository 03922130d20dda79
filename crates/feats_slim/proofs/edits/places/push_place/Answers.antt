use Rattle.std.proofs.Common.{◌∙◌, ◌++◌, ◌∷◌, [], List, ap, cond, nat_eq}
use Rattle.std.proofs.lemmas.Result.{on_ok_weaker}
use Rattle.std.specs.Borrow.{Bor}
use Rattle.cargo_workspaces.specs.Views.{texts}
use Rattle.cargo_workspaces.specs.Workspaces.{Text}
use Rattle.feats_slim.specs.edits.inner.Groups.{group_at, lists_text}
use Rattle.feats_slim.proofs.Lists.{added}
use Rattle.feats_slim.proofs.edits.places.push_place.Goals as goal

pub returns : goal.returns
returns c = on_ok_weaker c.add.result (λ grown q.
    added _ _ _ _ _ (grown q)
    ∙ ap (λ (fs : List (Bor Text)). lists_text (group_at c.args.groups.now q) ++ cond (nat_eq q c.args.unit.now.«package») (texts fs ∷ []) []) c.as_slice.ensures.value) c.add.ensures
