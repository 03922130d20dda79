use Rattle.std.proofs.Common.{◌≡◌, ◌∙◌, sym, ap, ℕ, List, Bool}
use Rattle.std.specs.Prelude.{◌&&◌, not, bit_and, bit_xor}
use Rattle.digraphs.specs.Bits.{has}
use Rattle.digraphs.specs.inner.Words.{bits_of}
use Rattle.digraphs.proofs.BitLemmas.{size_is, combined, combined_words, combined_has, combines_but}
use Rattle.digraphs.proofs.bit_set.IxBitSet.difference.Goals as goal

pub invariant_of-result : goal.invariant_of-result
invariant_of-result c =
    let n = size_is c.self.inside.size c.self.inside.words.items c.args.self.now c.self.view_is in
    let m = size_is c.other.inside.size c.other.inside.words.items c.args.other.now c.other.view_is in
    let same : c.other.inside.size ≡ c.self.inside.size = m ∙ sym c.requires ∙ sym n in
    let words : c.in_ok-words.words.items ≡ combined (λ x y. bit_and x (bit_xor x y)) c.self.inside.words.items c.other.inside.words.items =
    rw (c.deref.ensures.value, c.deref-2.ensures.value) at c.in_ok-words.ensures in
    rw words (combined_words (λ x y. bit_and x (bit_xor x y)) (λ x y. x && not y) combines_but c.self.inside.size c.self.inside.words.items c.other.inside.words.items c.self.invariant (rw same at c.other.invariant))

pub returns-clause-members : goal.returns-clause-members
returns-clause-members c =
    λ k.
    let n = size_is c.self.inside.size c.self.inside.words.items c.args.self.now c.self.view_is in
    let m = size_is c.other.inside.size c.other.inside.words.items c.args.other.now c.other.view_is in
    let same : c.other.inside.size ≡ c.self.inside.size = m ∙ sym c.requires ∙ sym n in
    let words : c.in_ok-words.words.items ≡ combined (λ x y. bit_and x (bit_xor x y)) c.self.inside.words.items c.other.inside.words.items =
    rw (c.deref.ensures.value, c.deref-2.ensures.value) at c.in_ok-words.ensures in
    ap (λ (ws : List ℕ). has (bits_of c.self.inside.size ws) k) words
    ∙ combined_has (λ x y. bit_and x (bit_xor x y)) (λ x y. x && not y) combines_but c.self.inside.size c.self.inside.words.items c.other.inside.words.items c.self.invariant (rw same at c.other.invariant) k
    ∙ ap (λ (s : List Bool). has s k && not (has (bits_of c.self.inside.size c.other.inside.words.items) k)) c.self.view_is
    ∙ ap (λ (s : List Bool). has c.args.self.now k && not (has s k)) (rw same at c.other.view_is)
