use Rattle.feats_list.proofs.Once.{once_new, once_same}
use Rattle.feats_list.proofs.features.optional_names.note.Goals as goal

pub returns-in_ok-push : goal.returns-in_ok-push
returns-in_ok-push c = λ all was.
    once_new all c.args.seen.now c.insert.new.self c.args.names.now.items c.push.new.self.items c.args.name c.in_ok-insert.field-0
    (λ q. c.in_ok-insert.ensures.updates.0 q) c.in_ok-insert.ensures.added c.if-branch.true c.in_ok-push.ensures.items was

pub returns-else-branch : goal.returns-else-branch
returns-else-branch c = λ all was.
    once_same all c.args.seen.now c.insert.new.self c.args.names.now.items c.args.name c.in_ok-insert.field-0
    (λ q. c.in_ok-insert.ensures.updates.0 q) c.in_ok-insert.ensures.added c.if-branch.false was
