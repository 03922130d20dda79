use Rattle.std.proofs.Common.{◌≡◌, ◌<◌, ◌∙◌, ◌∷◌, ◌++◌, ℕ, true, false, List, length, All, ap, sym, subst, arith}
use Rattle.std.specs.Prelude.{filter, not}
use Rattle.std.proofs.lemmas.List.Elements.{All-head, All-rest, All-same}
use Rattle.digraphs.specs.Bits.{has}
use Rattle.digraph_orders.specs.Sequences.{component_of}
use Rattle.guppy_support.specs.Views.{in_order, is_root, roots_in_order}
use Rattle.guppy_support.proofs.LinkSteps.{members_below}
use Rattle.guppy_support.proofs.RootLemmas.{kept_more, passed_more, kept_all}
use Rattle.guppy_support.proofs.root_nodes.roots.Goals as goal

pub loop-node-init : goal.loop-node-init
loop-node-init c =
    let r = c.args.reading in
    let o = c.args.order.now in
    let set = c.args.members.now in
    let test = is_root r c.args.digraph.now.edges o set in
    let items = c.into_iter-node-iterator.ensures.into_iter_gives ∙ c.new-node-items.ensures in
    let long : length set ≡ length o.list = c.requires.size ∙ sym c.requires.order in
    record {
      within = subst (All (λ (v : ℕ). v < length o.list)) (sym items) (subst (λ (n : ℕ). All (λ v. v < n) (in_order r o.list set)) long (members_below r o.list set));
      roots = ap (λ (xs : List ℕ). xs ++ filter test c.into_iter-node-iterator.result) c.new-roots.ensures.items ∙ ap (filter test) items;
    }

pub component-requires : goal.component-requires
component-requires c =
    let below : ℕ → Type 0 = λ v. v < length c.args.order.now.list in
    let h = All-head below c.in-Some.node c.next.new.self (All-same below (c.in-Some.node ∷ c.next.new.self) c.loop-node.node-iterator (sym c.in-Some.ensures.steps) c.loop-node.invariant.within) in
    omega (arith, h, c.facts.ensures.long)

pub contains-requires : goal.contains-requires
contains-requires c =
    let below : ℕ → Type 0 = λ v. v < length c.args.order.now.list in
    let h = All-head below c.in-Some.node c.next.new.self (All-same below (c.in-Some.node ∷ c.next.new.self) c.loop-node.node-iterator (sym c.in-Some.ensures.steps) c.loop-node.invariant.within) in
    omega (arith, c.facts.ensures.below c.in-Some.node h, c.component.ensures, c.in_ok-left.ensures.size)

pub loop-node-preserved-in-Continue-branch-2 : goal.loop-node-preserved-in-Continue-branch-2
loop-node-preserved-in-Continue-branch-2 c =
    let o = c.args.order.now in
    let below : ℕ → Type 0 = λ v. v < length o.list in
    let test = is_root c.args.reading c.args.digraph.now.edges o c.args.members.now in
    let all = roots_in_order c.args.reading c.args.digraph.now.edges o c.args.members.now in
    let steps = c.in-Some.ensures.steps in
    let h = All-head below c.in-Some.node c.next.new.self (All-same below (c.in-Some.node ∷ c.next.new.self) c.loop-node.node-iterator (sym steps) c.loop-node.invariant.within) in
    let left : has c.in_ok-left.left (component_of o c.in-Some.node) ≡ false = ap (has c.in_ok-left.left) (sym c.component.ensures) ∙ sym c.contains.ensures ∙ c.if-not-contains.true in
    let is : test c.in-Some.node ≡ true = ap not (sym (c.in_ok-left.ensures.left (component_of o c.in-Some.node) (c.facts.ensures.below c.in-Some.node h)) ∙ left) in
    record {
      within = All-rest below c.in-Some.node c.next.new.self c.loop-node.node-iterator steps c.loop-node.invariant.within;
      roots = ap (λ (xs : List ℕ). xs ++ filter test c.next.new.self) c.in_ok-push.ensures.items ∙ kept_more test c.loop-node.roots.items c.loop-node.node-iterator c.next.new.self all c.in-Some.node steps is c.loop-node.invariant.roots;
    }

pub loop-node-preserved : goal.loop-node-preserved
loop-node-preserved c =
    let o = c.args.order.now in
    let below : ℕ → Type 0 = λ v. v < length o.list in
    let test = is_root c.args.reading c.args.digraph.now.edges o c.args.members.now in
    let all = roots_in_order c.args.reading c.args.digraph.now.edges o c.args.members.now in
    let steps = c.in-Some.ensures.steps in
    let h = All-head below c.in-Some.node c.next.new.self (All-same below (c.in-Some.node ∷ c.next.new.self) c.loop-node.node-iterator (sym steps) c.loop-node.invariant.within) in
    let left : has c.in_ok-left.left (component_of o c.in-Some.node) ≡ true = ap (has c.in_ok-left.left) (sym c.component.ensures) ∙ sym c.contains.ensures ∙ c.if-not-contains.false in
    let is : test c.in-Some.node ≡ false = ap not (sym (c.in_ok-left.ensures.left (component_of o c.in-Some.node) (c.facts.ensures.below c.in-Some.node h)) ∙ left) in
    record {
      within = All-rest below c.in-Some.node c.next.new.self c.loop-node.node-iterator steps c.loop-node.invariant.within;
      roots = passed_more test c.loop-node.roots.items c.loop-node.node-iterator c.next.new.self all c.in-Some.node steps is c.loop-node.invariant.roots;
    }

pub returns : goal.returns
returns c = kept_all (is_root c.args.reading c.args.digraph.now.edges c.args.order.now c.args.members.now) c.loop-node.roots.items c.loop-node.node-iterator (roots_in_order c.args.reading c.args.digraph.now.edges c.args.order.now c.args.members.now) c.in-None.ensures.steps.0 c.loop-node.invariant.roots
