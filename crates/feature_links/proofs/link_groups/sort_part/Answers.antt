use Rattle.std.proofs.Common.{◌++◌, ap, arith, of_calls, refl, rules, ◌∙◌}
use Rattle.std.proofs.lemmas.Result.{on_ok_weaker}
use Rattle.std.proofs.lemmas.Fn.{always_returns_same}
use Rattle.feature_links.specs.inner.LinkOrder.{link_name}
use Rattle.feature_links.proofs.NameLemmas.{is_before, ranked}
use Rattle.feature_links.proofs.link_groups.sort_part.Goals as goal

pub returns : goal.returns
returns c =
    let front = c.split_at_mut-rest.result.0.now in
    let part = c.split_at_mut-part.result.0.now in
    let key = link_name c.args.graph.now in
    on_ok_weaker c.sort_by.result (λ sorted. record {
      front = front;
      part = part;
      sorted = c.sort_by.new.self;
      back = c.split_at_mut-part.result.1.now;
      before = c.split_at_mut-rest.ensures.value ∙ ap (λ z. front ++ z) c.split_at_mut-part.ensures.value;
      after = refl;
      start_is = c.split_at_mut-rest.ensures.front_len;
      end_is = omega (arith, c.requires.ascends, c.split_at_mut-part.ensures.front_len);
      count = c.sort_by.ensures.len;
      permutation = c.sort_by.ensures.permutation;
      ordered = sorted (is_before key) (ranked key) (always_returns_same _ _ _ (λ a r f k. search (rules, of_calls)));
      stable = c.sort_by.ensures.stable (is_before key) (ranked key) (always_returns_same _ _ _ (λ a r f k. search (rules, of_calls)));
    }) c.sort_by.ensures.sorted
