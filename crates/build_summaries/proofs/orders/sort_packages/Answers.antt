use Rattle.std.proofs.Common.{rules}
use Rattle.std.proofs.lemmas.Result.{on_ok_weaker}
use Rattle.std.proofs.lemmas.List.Sorted.{IsPermutation-map, answers_always, ranks_by}
use Rattle.build_summaries.specs.Orders.{package_total}
use Rattle.build_summaries.specs.Views.{package_text}
use Rattle.build_summaries.proofs.SortedPackages.{ascends, before, stays}
use Rattle.build_summaries.proofs.orders.sort_packages.Goals as goal

pub returns : goal.returns
returns c =
    let old = c.args.packages.now.items in
    let new = c.sort_by.new.self.items in
    on_ok_weaker c.sort_by.result (λ sorted. record {
      are_all = IsPermutation-map package_text old new c.sort_by.ensures.permutation;
      ascends = ascends new (sorted before (ranks_by package_total package_text) (answers_always _ _ _ (λ f a r g h. search rules)));
      is_stable = stays old new (c.sort_by.ensures.stable before (ranks_by package_total package_text) (answers_always _ _ _ (λ f a r g h. search rules)));
    }) c.sort_by.ensures.sorted
