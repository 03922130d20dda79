use Rattle.std.proofs.Common.{rules, ◌≡◌, ◌<◌, ◌/◌, length, get_or, set, false, ap, ◌∙◌, arith, vec_len}
use Rattle.std.proofs.lemmas.List.{get_or_read}
use Rattle.digraphs.proofs.BitLemmas.{size_is, without_bit_words, without_bit_view}
use Rattle.digraphs.proofs.bit_set.IxBitSet.remove.Goals as goal

pub index_mut-requires : goal.index_mut-requires
index_mut-requires c =
    let n = size_is c.self.inside.size c.self.inside.words.items c.args.self.now c.self.view_is in
    let v : vec_len c.self.inside.words ≡ length c.self.inside.words.items = search rules in
    omega (arith, n, v, c.requires, c.self.invariant.long)

pub invariant_of-self : goal.invariant_of-self
invariant_of-self c =
    let words = c.self.inside.words.items in
    let n = size_is c.self.inside.size words c.args.self.now c.self.view_is in
    let inside : c.args.number / 64 < length words = omega (arith, n, c.requires, c.self.invariant.long) in
    let read : c.index_mut.result.now ≡ get_or words (c.args.number / 64) 0 = get_or_read words (c.args.number / 64) c.index_mut.result.now inside c.index_mut.ensures.value 0 in
    rw read (without_bit_words c.self.inside.size words c.args.number (omega (arith, n, c.requires)) c.self.invariant)

pub returns : goal.returns
returns c =
    let words = c.self.inside.words.items in
    let n = size_is c.self.inside.size words c.args.self.now c.self.view_is in
    let inside : c.args.number / 64 < length words = omega (arith, n, c.requires, c.self.invariant.long) in
    let read : c.index_mut.result.now ≡ get_or words (c.args.number / 64) 0 = get_or_read words (c.args.number / 64) c.index_mut.result.now inside c.index_mut.ensures.value 0 in
    rw read (without_bit_view c.self.inside.size words c.args.number (omega (arith, n, c.requires)) c.self.invariant)
    ∙ ap (λ s. set s c.args.number false) c.self.view_is
