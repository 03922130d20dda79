use Rattle.std.proofs.lemmas.Result.{IfOk-weaker}
use Rattle.feats_list.proofs.CountLemmas.{are_counted}
use Rattle.feats_list.proofs.platforms.counted.counted_specs.Goals as goal

pub returns : goal.returns
returns c = IfOk-weaker c.in_order.result _ _ (λ list entries. are_counted c.in_ok-counts.counts _ _ c.in_ok-counts.ensures c.in_order.ensures.ordered entries) c.in_order.ensures.entries
