use Rattle.std.proofs.Common.{◌∙◌}
use Rattle.semver.specs.Identifiers.{parts_of}
use Rattle.semver.specs.Parse.{req_of}
use Rattle.workspace_documents.proofs.Comparators.{admits_by}
use Rattle.workspace_documents.proofs.requirements.admits_version.Goals as goal

pub returns-in-Ok : goal.returns-in-Ok
returns-in-Ok c = c.admits_each.ensures ∙ admits_by c.in-Ok.parsed.comparators.items (parts_of c.args.version.now) (req_of c.args.requirement.now) c.in-Ok.ensures.ok
