use Rattle.std.proofs.Common.{◌∙◌, sym, refl}
use Rattle.feats_diff.specs.changes.inner.Joined.{cmp_by}
use Rattle.feats_diff.proofs.Merges.{took_both, took_new, took_old}
use Rattle.feats_diff.proofs.changes.matches.take_next.Goals as goal

pub returns-in_ok-push-in-Less-clause-found : goal.returns-in_ok-push-in-Less-clause-found
returns-in_ok-push-in-Less-clause-found c =
    took_old (cmp_by c.args.by) c.args.old.now c.args.new.now c.args.taken.old c.args.taken.new c.index-old-taken.result c.index-new-taken.result c.requires.0 c.requires.1 c.index-old-taken.is c.index-new-taken.is
    c.args.found.now.gone.items c.push.new.self.items c.args.found.now.comes.items c.args.found.now.pairs.items (sym c.compare_by.ensures ∙ c.in-Less.is) c.in_ok-push-in-Less.ensures.items

pub returns-in_ok-push-in-Equal-clause-found : goal.returns-in_ok-push-in-Equal-clause-found
returns-in_ok-push-in-Equal-clause-found c =
    took_both (cmp_by c.args.by) c.args.old.now c.args.new.now c.args.taken.old c.args.taken.new c.index-old-taken.result c.index-new-taken.result c.requires.0 c.requires.1 c.index-old-taken.is c.index-new-taken.is
    c.args.found.now.gone.items c.args.found.now.comes.items c.args.found.now.pairs.items c.push-in-Equal.new.self.items _ (sym c.compare_by.ensures ∙ c.in-Equal.is) refl c.in_ok-push-in-Equal.ensures.items

pub returns-in_ok-push-in-Greater-clause-found : goal.returns-in_ok-push-in-Greater-clause-found
returns-in_ok-push-in-Greater-clause-found c =
    took_new (cmp_by c.args.by) c.args.old.now c.args.new.now c.args.taken.old c.args.taken.new c.index-old-taken.result c.index-new-taken.result c.requires.0 c.requires.1 c.index-old-taken.is c.index-new-taken.is
    c.args.found.now.gone.items c.args.found.now.comes.items c.push-in-Greater.new.self.items c.args.found.now.pairs.items (sym c.compare_by.ensures ∙ c.in-Greater.is) c.in_ok-push-in-Greater.ensures.items
