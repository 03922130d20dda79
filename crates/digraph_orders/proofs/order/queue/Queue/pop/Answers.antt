use Rattle.std.proofs.Common.{◌≡◌, ◌/◌, arith, ap, sym, ◌∙◌}
use Rattle.digraphs.specs.Bits.{members}
use Rattle.digraph_orders.proofs.QueueLemmas.{first_least, least_of_least, leaves, upper_less, lower_less, ticks_less, none_left, members_none}
use Rattle.digraph_orders.proofs.order.queue.Queue.pop.Goals as goal

pub returns-in-Some-first_in-2-clause-some : goal.returns-in-Some-first_in-2-clause-some
returns-in-Some-first_in-2-clause-some c =
    let q = c.loop-block.self-inside in
    let i = c.loop-block.invariant in
    let block = first_least q.blocks c.in-Some.block _ c.in-Some.ensures.least.2 in
    let word = c.in-Some-first_in.ensures.some in
    let number = c.in-Some-first_in-2.ensures.some in
    let words_above = least_of_least q.words q.blocks c.in-Some.block c.in-Some-first_in.word i.blocks block.1 word.word word.least in
    let least = least_of_least q.numbers q.words c.in-Some-first_in.word c.in-Some-first_in-2.number i.words words_above number.word number.least in
    let old : members q.numbers ≡ members c.args.self.now = rw i.numbers (ap members c.self.view_is) in
    rw c.remove.ensures (rw old at (leaves q.numbers c.in-Some-first_in-2.number number.is least))

pub loop-block-preserved-in-Some-first_in : goal.loop-block-preserved-in-Some-first_in
loop-block-preserved-in-Some-first_in c =
    let q = c.loop-block.self-inside in
    let i = c.loop-block.invariant in
    record {
      numbers = i.numbers;
      words = rw c.remove-in-Some-first_in.ensures (upper_less q.numbers q.words c.in-Some-first_in.word c.in_default-first_in-2.ensures.none i.words);
      blocks = rw c.remove-in-Some-first_in.ensures (lower_less q.words q.blocks c.in-Some-first_in.word i.blocks);
    }

pub loop-block-smaller : goal.loop-block-smaller
loop-block-smaller c =
    let q = c.loop-block.self-inside in
    let block = first_least q.blocks c.in-Some.block _ c.in-Some.ensures.least.2 in
    rw c.remove-in_default-first_in.ensures (omega (arith, ticks_less q.blocks c.in-Some.block block.0))

pub returns-clause-none : goal.returns-clause-none
returns-clause-none c =
    let q = c.loop-block.self-inside in
    let i = c.loop-block.invariant in
    let old : members q.numbers ≡ members c.args.self.now = rw i.numbers (ap members c.self.view_is) in
    sym old ∙ members_none q.numbers (λ j h. none_left q.blocks c.in_default.ensures.least (j / 64 / 64) (i.blocks.covers (j / 64) (i.words.covers j h)))

pub returns-clause-empty : goal.returns-clause-empty
returns-clause-empty c =
    let q = c.loop-block.self-inside in
    let i = c.loop-block.invariant in
    members_none q.numbers (λ j h. none_left q.blocks c.in_default.ensures.least (j / 64 / 64) (i.blocks.covers (j / 64) (i.words.covers j h)))
