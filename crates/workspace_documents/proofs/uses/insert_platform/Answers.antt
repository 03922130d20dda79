use Rattle.std.proofs.Common.{refl}
use Rattle.workspace_documents.proofs.UseSets.{named_more}
use Rattle.workspace_documents.proofs.uses.insert_platform.Goals as goal

pub returns-in_ok-_is_new-in-Some : goal.returns-in_ok-_is_new-in-Some
returns-in_ok-_is_new-in-Some c = λ asked.
    rw c.in-Some.is (named_more c.in-Some.name c.args.platforms.now (record { every = c.args.platforms.now.every; named = c.insert.new.self }) refl c.in_ok-_is_new-in-Some.ensures.updates.0 asked)
