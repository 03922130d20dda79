use Rattle.std.proofs.Common.{◌∙◌, ◌<◌, ap, sym, refl, subst, length, suc, arith, ℕ, List, ◌||◌, not}
use Rattle.feats_tree.specs.trees.Branches.{is_empty}
use Rattle.feats_tree.specs.trees.inner.Nodes.{TakesEnds}
use Rattle.feats_tree.proofs.NodeLemmas.{take_past, take_set}
use Rattle.feats_tree.specs.declared.trees.nodes.Node.{Node}
use Rattle.feats_tree.proofs.trees.nodes.take_at.Goals as goal

pub returns-then-number-len : goal.returns-then-number-len
returns-then-number-len c =
    let within : c.args.number < length c.args.nodes.now.items = omega arith in
    take_set c.args.nodes.now.items _ c.args.number c.take_ends.new.node c.index_mut.result.now _ refl within
    (c.take_ends.ensures.taken ∙ ap (λ (n : Node). n.ends.items) c.index_mut.ensures.value)
    c.take_ends.ensures.ends
    (c.take_ends.ensures.shown ∙ ap (λ (n : Node). n.is_shown || not (is_empty n.ends.items)) c.index_mut.ensures.value)

pub returns-else-number-len : goal.returns-else-number-len
returns-else-number-len c =
    let past : length c.args.nodes.now.items < suc c.args.number = omega arith in
    subst (λ (z : List ℕ). TakesEnds c.args.nodes.now.items c.args.nodes.now.items c.args.number z) (sym c.new.ensures.items) (take_past c.args.nodes.now.items c.args.number past)
