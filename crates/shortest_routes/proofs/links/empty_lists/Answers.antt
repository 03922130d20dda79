use Rattle.std.proofs.Common.{◌∙◌, ◌+◌, ap, length}
use Rattle.std.proofs.lemmas.List.{length_push}
use Rattle.shortest_routes.specs.inner.Links.{nodes_before}
use Rattle.shortest_routes.proofs.LinkLemmas.{before_push}
use Rattle.shortest_routes.proofs.links.empty_lists.Goals as goal

pub loop-list-preserved : goal.loop-list-preserved
loop-list-preserved c = record {
  size = ap length c.in_ok-push.ensures.items ∙ length_push c.loop-list.lists.items c.new.result ∙ ap (λ n. n + 1) c.loop-list.invariant.size;
  empty = λ n. ap (λ z. nodes_before z n) c.in_ok-push.ensures.items ∙ before_push c.loop-list.lists.items c.new.result n c.new.ensures.items ∙ c.loop-list.invariant.empty n;
}
