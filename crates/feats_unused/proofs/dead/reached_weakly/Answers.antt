use Rattle.std.proofs.Common.{◌∙◌, ◌++◌, ◌∷◌, [], Bool, ap, cond}
use Rattle.std.specs.Prelude.{is_some}
use Rattle.cargo_workspaces.specs.Views.{declaration_text, texts}
use Rattle.cargo_workspaces.specs.Workspaces.{DeclarationText}
use Rattle.feats_unused.specs.Dead.{can_be_on}
use Rattle.feats_unused.proofs.Lists.{filtered_more}
use Rattle.feats_unused.proofs.dead.reached_weakly.Goals as goal

pub loop-declaration-preserved : goal.loop-declaration-preserved
loop-declaration-preserved c = λ some has.
    filtered_more declaration_text (λ (d : DeclarationText). is_some d.leads_to) (can_be_on some) (λ (d : DeclarationText). d.name) c.args.declarations.now c.loop-declaration.declaration-index c.declaration-item.result _ _ _
    c.loop-declaration-test.true c.declaration-item.is (c.loop-declaration.invariant some has)
    (c.in_ok-push_if.ensures ∙ ap (λ (b : Bool). texts c.loop-declaration.names.items ++ cond b (c.declaration-item.result.name.now ∷ []) []) (c.is_reached_weakly.ensures some has))
