use Rattle.feats_plans.proofs.Places.{found_number, missing_number}
use Rattle.feats_plans.proofs.numbered_workspaces.numbers.number_of.Goals as goal

pub returns-in-Ok : goal.returns-in-Ok
returns-in-Ok c = found_number c.args.ids.now c.args.id.now c.in-Ok.number c.requires c.in-Ok.ensures.bound c.in-Ok.ensures.ok

pub returns-in-Err : goal.returns-in-Err
returns-in-Err c = missing_number c.args.ids.now c.args.id.now _ c.requires c.in-Err.ensures.position
