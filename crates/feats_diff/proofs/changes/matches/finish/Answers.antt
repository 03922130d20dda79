use Rattle.feats_diff.proofs.Merges.{all_taken}
use Rattle.feats_diff.proofs.changes.matches.finish.Goals as goal

pub returns : goal.returns
returns c = λ by.
    all_taken by c.args.taken.old c.args.taken.new c.args.old.now c.args.new.now c.args.found.gone.items c.push_rest.new.list.items c.args.found.comes.items c.push_rest-2.new.list.items c.args.found.pairs.items
    c.requires.end c.in_ok-push_rest.ensures c.in_ok-push_rest-2.ensures
