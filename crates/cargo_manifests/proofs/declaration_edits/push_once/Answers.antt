use Rattle.cargo_manifests.proofs.Once.{seen_more}
use Rattle.cargo_manifests.proofs.declaration_edits.push_once.Goals as goal

pub returns-in_ok-push-clause-seen : goal.returns-in_ok-push-clause-seen
returns-in_ok-push-clause-seen c = λ q.
    seen_more c.args.listed.now.items c.push.new.self.items c.args.text q _ _ (c.in_ok-insert.ensures.updates.0 q) (c.requires q) c.in_ok-push.ensures.items
