use Rattle.std.proofs.Common.{arith, ◌+◌, inr}
use Rattle.feature_edges.specs.inner.Parts.{IsToFirstFrom}
use Rattle.feature_edges.proofs.AddsLemmas.{Adds-turn}
use Rattle.feature_edges.proofs.PushLemmas.{first_pushed, first_next, first_none, first_end}
use Rattle.feature_edges.proofs.collect.features.push_to_first.Goals as goal

pub loop-place-init : goal.loop-place-init
loop-place-init c = first_none c.args.start c.args.first c.args.start c.args.keys.now.items (omega arith)

pub loop-place-preserved : goal.loop-place-preserved
loop-place-preserved c =
    let first = c.args.first in
    let k = c.loop-place.place in
    let before = c.loop-place.keys.items in
    let after = c.push_to.new.keys.items in
    Adds-turn (IsToFirstFrom c.args.start first) k c.args.keys.now.items before after c.loop-place.invariant
    (first_next c.args.start first k before after (omega arith) (omega arith) (first_pushed first (first + k) before after c.in_ok-push_to.ensures))

pub returns : goal.returns
returns c = first_end c.args.start c.args.first c.loop-place.place c.args.count c.args.keys.now.items c.loop-place.keys.items (omega arith) (inr (omega arith)) c.loop-place.invariant
