use Rattle.std.proofs.Common.{◌∙◌, ap, List, Bool}
use Rattle.std.specs.Prelude.{nat_eq}
use Rattle.std.specs.Cmp.Lexicographic.{pointwise}
use Rattle.digraphs.specs.inner.Words.{bits_of, Fit}
use Rattle.digraphs.specs.Bits.{members}
use Rattle.digraphs.proofs.EqualLemmas.{equal_members}
use Rattle.digraphs.proofs.bit_set.IxBitSetPartialEq.eq.Goals as goal

pub returns : goal.returns
returns c =
    let n = c.self.inside.size in
    let m = c.other.inside.size in
    let mine = c.self.inside.words.items in
    let its = c.other.inside.words.items in
    let mine_fit : Fit mine = rw c.deref.ensures.value at c.same_words.ensures.mine_fit in
    let its_fit : Fit its = rw c.deref-2.ensures.value at c.same_words.ensures.its_fit in
    equal_members n m mine its c.self.invariant c.other.invariant mine_fit its_fit c.same_words.result
    (rw (c.deref.ensures.value, c.deref-2.ensures.value) at c.same_words.ensures.same)
    (rw (c.deref.ensures.value, c.deref-2.ensures.value) at c.same_words.ensures.apart)
    ∙ ap (λ (s : List Bool). pointwise nat_eq (members s) (members (bits_of m its))) c.self.view_is
    ∙ ap (λ (s : List Bool). pointwise nat_eq (members c.args.self.now) (members s)) c.other.view_is
