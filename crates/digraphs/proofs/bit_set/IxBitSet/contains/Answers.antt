use Rattle.std.proofs.Common.{rules, ◌≡◌, ◌<◌, ◌/◌, length, get_or, sym, arith, vec_len}
use Rattle.std.proofs.lemmas.List.{get_or_read}
use Rattle.std.proofs.lemmas.Nat.Bits.{shr_and_one}
use Rattle.digraphs.proofs.BitLemmas.{size_is, has_is}
use Rattle.digraphs.proofs.bit_set.IxBitSet.contains.Goals as goal

pub index-requires : goal.index-requires
index-requires c =
    let n = size_is c.self.inside.size c.self.inside.words.items c.args.self.now c.self.view_is in
    let v : vec_len c.self.inside.words ≡ length c.self.inside.words.items = search rules in
    omega (arith, n, v, c.requires, c.self.invariant.long)

pub returns : goal.returns
returns c =
    let words = c.self.inside.words.items in
    let n = size_is c.self.inside.size words c.args.self.now c.self.view_is in
    let inside : c.args.number / 64 < length words = omega (arith, n, c.requires, c.self.invariant.long) in
    let read : c.index.result.now ≡ get_or words (c.args.number / 64) 0 = get_or_read words (c.args.number / 64) c.index.result.now inside c.index.ensures 0 in
    rw (read, shr_and_one) (sym (has_is c.self.inside.size words c.args.self.now c.args.number c.self.view_is c.requires))
