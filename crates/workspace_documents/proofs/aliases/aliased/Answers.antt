use Rattle.workspace_documents.proofs.OtherNames.{aliased_all}
use Rattle.workspace_documents.proofs.aliases.aliased.Goals as goal

pub returns : goal.returns
returns c = aliased_all c.in_ok-names.names c.in_ok-ids.ids c.args.dependencies.now c.in_ok-ids.ensures
