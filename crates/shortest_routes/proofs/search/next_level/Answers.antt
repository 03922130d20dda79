use Rattle.std.proofs.Common.{◌<◌, ⊎_elim, ℕ, List, [], get_or, Contains, sym, subst}
use Rattle.std.proofs.lemmas.List.Elements.{Contains-get_or}
use Rattle.shortest_routes.specs.inner.Links.{nodes_before}
use Rattle.shortest_routes.specs.inner.Searches.{Grows, IsFrom}
use Rattle.shortest_routes.proofs.ListLemmas.{all_taken, none_in, taken_cases}
use Rattle.shortest_routes.proofs.SearchLemmas.{grows_by, grows_none, grows_on}
use Rattle.shortest_routes.proofs.search.next_level.Goals as goal

pub loop-node-init : goal.loop-node-init
loop-node-init c = record {
  grows = subst (λ (z : List ℕ). Grows (IsFrom (nodes_before c.args.lists.now) c.args.level.now c.args.distance) c.args.steps.now.items c.args.steps.now.items [] z) (sym c.new-next.ensures.items)
      (grows_none (IsFrom (nodes_before c.args.lists.now) c.args.level.now c.args.distance) c.args.steps.now.items []);
  all = λ n node h. absurd (none_in node h);
}

pub reach_all-requires : goal.reach_all-requires
reach_all-requires c = λ n h.
    let node = get_or c.args.level.now c.loop-node.node-index 0 in
    subst (λ m. n < m) (sym c.loop-node.invariant.grows.size) (c.requires n node (subst (λ (z : List ℕ). Contains z n) c.before-in-loop-node.ensures h))

pub loop-node-preserved : goal.loop-node-preserved
loop-node-preserved c =
    let level = c.args.level.now in
    let i = c.loop-node.node-index in
    let node = get_or level i 0 in
    let here = Contains-get_or level i 0 c.loop-node-test.true in
    let may = IsFrom (nodes_before c.args.lists.now) level c.args.distance in
    let reached = c.in_ok-reach_all.ensures.grows in
    record {
      grows = grows_on may c.args.steps.now.items c.loop-node.steps.items c.reach_all.new.steps.items [] c.loop-node.next.items c.reach_all.new.found.items
          c.loop-node.invariant.grows
          (grows_by _ may c.loop-node.steps.items c.reach_all.new.steps.items c.loop-node.next.items c.reach_all.new.found.items
          (λ n s h. (node, here, subst (λ (z : List ℕ). Contains z n) c.before-in-loop-node.ensures h.0, h.1)) reached);
      all = λ n other h before. ⊎_elim
          (λ was. let old = c.loop-node.invariant.all n other was before in (old.0, reached.kept n old.0 old.1))
          (λ same. c.in_ok-reach_all.ensures.all n (subst (λ (z : List ℕ). Contains z n) (sym c.before-in-loop-node.ensures) (subst (λ z. Contains (nodes_before c.args.lists.now z) n) (sym same) before)))
          (taken_cases level i 0 other c.loop-node-test.true h);
    }

pub returns-clause-all : goal.returns-clause-all
returns-clause-all c = λ n node h. c.loop-node.invariant.all n node (all_taken c.args.level.now c.loop-node.node-index node c.loop-node-test.false h)
