use Rattle.std.proofs.Common.{length}
use Rattle.cargo_workspaces.specs.Views.{declaration_text}
use Rattle.cargo_workspaces.specs.Workspaces.{DeclarationText, is_within}
use Rattle.plan_rows.proofs.Lists.{list_all_mapped}
use Rattle.plan_rows.proofs.on_rows.leads_of.Goals as goal

pub lead-requires-clause-within : goal.lead-requires-clause-within
lead-requires-clause-within g c =
    list_all_mapped declaration_text (λ (d : DeclarationText). is_within (length c.args.rules.now.macros.now) d.leads_to) c.args.declarations.now c.loop-declaration.declaration-index c.declaration-item.result c.requires.within c.loop-declaration-test.true c.declaration-item.is
