use Rattle.std.proofs.Common.{◌≡◌, ◌∙◌, ap, sym, subst, length, List, Bool}
use mathlib.Core.Bool.{true≢false}
use Rattle.std.proofs.lemmas.Bool.{ne_eqb}
use Rattle.std.specs.Prelude.{IsTrue, ◌↔◌}
use Rattle.digraphs.specs.inner.Words.{bits_of, Fit}
use Rattle.digraphs.proofs.BitLemmas.{size_is}
use Rattle.digraphs.proofs.EqualLemmas.{identical_words}
use Rattle.digraphs.proofs.bit_set.IxBitSet.is_identical.Goals as goal

pub returns-then-self-other : goal.returns-then-self-other
returns-then-self-other c =
    let n = c.self.inside.size in
    let mine = c.self.inside.words.items in
    let its = c.other.inside.words.items in
    let same : c.other.inside.size ≡ n = sym c.if-self-other.true in
    let mine_fit : Fit mine = rw c.deref.ensures.value at c.same_words.ensures.mine_fit in
    let its_fit : Fit its = rw c.deref-then-self-other.ensures.value at c.same_words.ensures.its_fit in
    subst (λ (s : List Bool). IsTrue c.same_words.result ↔ (c.args.self.now ≡ s)) (rw same at c.other.view_is)
    (subst (λ (s : List Bool). IsTrue c.same_words.result ↔ (s ≡ bits_of n its)) c.self.view_is
    (identical_words n mine its c.self.invariant (rw same at c.other.invariant) mine_fit its_fit c.same_words.result
    (rw (c.deref.ensures.value, c.deref-then-self-other.ensures.value) at c.same_words.ensures.same)
    (rw (c.deref.ensures.value, c.deref-then-self-other.ensures.value) at c.same_words.ensures.apart)))

pub returns-else-self-other : goal.returns-else-self-other
returns-else-self-other c = (
  λ h. absurd (true≢false (sym h ∙ ne_eqb c.self.inside.size c.other.inside.size c.if-self-other.false)),
  λ (e : c.args.self.now ≡ c.args.other.now).
      absurd (c.if-self-other.false (
      size_is c.self.inside.size c.self.inside.words.items c.args.self.now c.self.view_is ∙ ap length e
      ∙ sym (size_is c.other.inside.size c.other.inside.words.items c.args.other.now c.other.view_is))),
)
