use Rattle.std.proofs.Common.{◌≡◌, ◌<◌, ◌^◌, ◌*◌, ◌+◌, ◌∙◌, ap, sym, get_or, ℕ, List, arith, refl, length}
use Rattle.std.specs.Prelude.{count_ones}
use Rattle.digraphs.specs.inner.Words.{bits_of}
use Rattle.digraphs.proofs.BitLemmas.{ticks, ticks_more, ticks_all, ticks_le}
use Rattle.digraphs.proofs.bit_set.IxBitSet.count.Goals as goal

pub loop-word-init : goal.loop-word-init
loop-word-init c = refl

pub overflow_add-count : goal.overflow_add-count
overflow_add-count c =
    let words : List ℕ = c.deref-word-items.result.now in
    let fits : get_or words c.loop-word.word-index 0 < 2 ^ 64 = (c.type_inv.word-items c.loop-word.word-index).fits in
    let more = ticks_more words c.loop-word.word-index fits in
    let few = ticks_le c.self.inside.size ((c.loop-word.word-index + 1) * 64) words (rw (← c.deref-word-items.ensures.value) at c.self.invariant) in
    omega (arith, more, few, c.loop-word.invariant, c.self.invariant.fits)

pub loop-word-preserved : goal.loop-word-preserved
loop-word-preserved c =
    let words : List ℕ = c.deref-word-items.result.now in
    let fits : get_or words c.loop-word.word-index 0 < 2 ^ 64 = (c.type_inv.word-items c.loop-word.word-index).fits in
    ap (λ (n : ℕ). n + count_ones (get_or words c.loop-word.word-index 0)) c.loop-word.invariant ∙ sym (ticks_more words c.loop-word.word-index fits)

pub returns : goal.returns
returns c =
    let words : List ℕ = c.deref-word-items.result.now in
    let end : c.loop-word.word-index ≡ length words = omega arith in
    c.loop-word.invariant ∙ ap (λ (i : ℕ). ticks (bits_of (i * 64) words)) end
    ∙ ap (λ (ws : List ℕ). ticks (bits_of (length ws * 64) ws)) c.deref-word-items.ensures.value
    ∙ ticks_all c.self.inside.size c.self.inside.words.items c.self.invariant ∙ ap ticks c.self.view_is
