use Rattle.std.proofs.Common.{◌∙◌, ap, map}
use Rattle.std.proofs.lemmas.List.{map-append}
use Rattle.cargo_workspaces.specs.Views.{target_text}
use Rattle.workspace_documents.proofs.LooseFields.{targets_more}
use Rattle.workspace_documents.proofs.targets.targets_of.Goals as goal

pub loop-object-preserved : goal.loop-object-preserved
loop-object-preserved c =
    let pushed = ap (map target_text) c.in_ok-push.ensures.items ∙ map-append target_text c.loop-object.targets.items _ in
    rw pushed (targets_more _ c.loop-object.object-index c.object-item.result _ _ (target_text c.in_ok-target_of.field-0) c.loop-object-test.true c.object-item.is c.in_ok-target_of.ensures c.loop-object.invariant)
