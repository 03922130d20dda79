use Rattle.std.proofs.Common.{rules}
use Rattle.std.proofs.lemmas.Result.{on_ok_weaker}
use Rattle.std.proofs.lemmas.List.Sorted.{IsPermutation-map, answers_always, ranks_by}
use Rattle.feats_slim.specs.edits.Orders.{slim_total}
use Rattle.feats_slim.specs.edits.SlimViews.{slim_text}
use Rattle.feats_slim.proofs.SortedSlims.{before, descends, stays}
use Rattle.feats_slim.proofs.edits.orders.sort_slims.Goals as goal

pub returns : goal.returns
returns c =
    let old = c.args.slims.now.items in
    let new = c.sort_by.new.self.items in
    on_ok_weaker c.sort_by.result (λ sorted. record {
      are_all = IsPermutation-map slim_text old new c.sort_by.ensures.permutation;
      descends = descends new (sorted before (ranks_by slim_total slim_text) (answers_always _ _ _ (λ f a r g h. search rules)));
      is_stable = stays old new (c.sort_by.ensures.stable before (ranks_by slim_total slim_text) (answers_always _ _ _ (λ f a r g h. search rules)));
    }) c.sort_by.ensures.sorted
