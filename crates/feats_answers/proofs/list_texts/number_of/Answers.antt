use Rattle.cargo_workspaces.specs.WorkspaceView.{workspace_text}
use Rattle.plan_names.specs.Faults.{package_named, refusal_of}
use Rattle.feats_answers.proofs.Says.{says_name}
use Rattle.feats_answers.proofs.list_texts.number_of.Goals as goal

pub returns-in-Err-clause-fault : goal.returns-in-Err-clause-fault
returns-in-Err-clause-fault c =
    let packages = (workspace_text c.args.workspace.now).packages in
    says_name packages (package_named packages c.args.word.now) c.name_refused.result (refusal_of c.in-Err.fault) c.in-Err.ensures.one c.name_refused.ensures
