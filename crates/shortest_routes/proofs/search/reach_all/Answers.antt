use Rattle.std.proofs.Common.{◌<◌, ⊎_elim, get_or, Contains, sym, subst}
use Rattle.std.proofs.lemmas.List.Elements.{Contains-get_or}
use Rattle.shortest_routes.specs.inner.Searches.{HasStep, IsReached}
use Rattle.shortest_routes.proofs.ListLemmas.{all_taken, none_in, taken_cases}
use Rattle.shortest_routes.proofs.SearchLemmas.{grows_by, grows_none, grows_on}
use Rattle.shortest_routes.proofs.search.reach_all.Goals as goal

pub loop-node-init : goal.loop-node-init
loop-node-init c = record {
  grows = grows_none (IsReached c.args.nodes.now c.args.step) c.args.steps.now.items c.args.found.now.items;
  all = λ n h. absurd (none_in n h);
}

pub reach-requires : goal.reach-requires
reach-requires c =
    let node = get_or c.args.nodes.now c.loop-node.node-index 0 in
    subst (λ n. node < n) (sym c.loop-node.invariant.grows.size) (c.requires node (Contains-get_or c.args.nodes.now c.loop-node.node-index 0 c.loop-node-test.true))

pub loop-node-preserved : goal.loop-node-preserved
loop-node-preserved c =
    let nodes = c.args.nodes.now in
    let i = c.loop-node.node-index in
    let here = Contains-get_or nodes i 0 c.loop-node-test.true in
    let reached = c.in_ok-reach.ensures.grows in
    record {
      grows = grows_on (IsReached nodes c.args.step) c.args.steps.now.items c.loop-node.steps.items c.reach.new.steps.items c.args.found.now.items c.loop-node.found.items c.reach.new.found.items
          c.loop-node.invariant.grows
          (grows_by _ (IsReached nodes c.args.step) c.loop-node.steps.items c.reach.new.steps.items c.loop-node.found.items c.reach.new.found.items
          (λ n s h. (subst (Contains nodes) (sym h.0) here, h.1)) reached);
      all = λ n h. ⊎_elim
          (λ was. let old = c.loop-node.invariant.all n was in (old.0, reached.kept n old.0 old.1))
          (λ same. subst (HasStep c.reach.new.steps.items) same c.in_ok-reach.ensures.has_step)
          (taken_cases nodes i 0 n c.loop-node-test.true h);
    }

pub returns-clause-all : goal.returns-clause-all
returns-clause-all c = λ n h. c.loop-node.invariant.all n (all_taken c.args.nodes.now c.loop-node.node-index n c.loop-node-test.false h)
