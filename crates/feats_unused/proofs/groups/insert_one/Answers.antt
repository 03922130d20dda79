use Rattle.feats_lines.proofs.Counts.{any_more}
use Rattle.feats_unused.proofs.groups.insert_one.Goals as goal

pub returns : goal.returns
returns c = λ names has q. any_more names c.args.name.now q.now _ _ (c.in_ok-_is_new.ensures.updates.0 q) (has q)
