use Rattle.guppy_packages.specs.Items.{item_of}
use Rattle.cargo_workspaces.specs.Workspaces.{Text}
use Rattle.std.specs.Borrow.{Bor}
use Rattle.feats_unused.specs.Requests.{by_item}
use Rattle.feats_unused.proofs.Lists.{joined_at, joined_end}
use Rattle.feats_unused.proofs.requests.push_items.Goals as goal

pub loop-item-preserved : goal.loop-item-preserved
loop-item-preserved c = λ ds has.
    joined_at (λ (t : Bor Text). t.now) (λ (t : Text). by_item c.args.from ds (item_of t)) c.args.items.now c.loop-item.item-index _ _ _ _ c.loop-item-test.true (c.loop-item.invariant ds has) (c.in_ok-push_item.ensures ds has)

pub returns : goal.returns
returns c = λ ds has.
    joined_end (λ (t : Bor Text). t.now) (λ (t : Text). by_item c.args.from ds (item_of t)) c.args.items.now c.loop-item.item-index _ _ c.loop-item-test.false (c.loop-item.invariant ds has)
