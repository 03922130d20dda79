use Rattle.feats_duplicates.proofs.Sets.{any_more}
use Rattle.feats_duplicates.proofs.features.insert_one.Goals as goal

pub returns : goal.returns
returns c = λ names has q. any_more names c.args.name.now q.now _ _ (c.in_ok-_is_new.ensures.updates.0 q) (has q)
