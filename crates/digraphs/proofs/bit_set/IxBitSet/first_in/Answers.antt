use Rattle.std.proofs.Common.{rules, ◌≡◌, ◌<◌, ◌^◌, length, get_or, sym, arith, vec_len}
use Rattle.std.proofs.lemmas.List.{get_or_read}
use Rattle.digraphs.proofs.BitLemmas.{size_is, none_in_word, first_in_word}
use Rattle.digraphs.proofs.bit_set.IxBitSet.first_in.Goals as goal

pub index-word-requires : goal.index-word-requires
index-word-requires c =
    let n = size_is c.self.inside.size c.self.inside.words.items c.args.self.now c.self.view_is in
    let v : vec_len c.self.inside.words ≡ length c.self.inside.words.items = search rules in
    omega (arith, n, v, c.requires, c.self.invariant.long)

pub returns-then-word-eq0-clause-none : goal.returns-then-word-eq0-clause-none
returns-then-word-eq0-clause-none c =
    let words = c.self.inside.words.items in
    let n = size_is c.self.inside.size words c.args.self.now c.self.view_is in
    let inside : c.args.place < length words = omega (arith, n, c.requires, c.self.invariant.long) in
    let read : c.index-word.result.now ≡ get_or words c.args.place 0 = get_or_read words c.args.place c.index-word.result.now inside c.index-word.ensures 0 in
    none_in_word c.self.inside.size words c.args.self.now c.args.place c.self.view_is (omega (arith, read, c.if-word-eq0.true))

pub overflow_mul-result : goal.overflow_mul-result
overflow_mul-result c =
    let n = size_is c.self.inside.size c.self.inside.words.items c.args.self.now c.self.view_is in
    omega (arith, n, c.requires, c.self.invariant.fits)

pub overflow_add-result : goal.overflow_add-result
overflow_add-result c =
    let words = c.self.inside.words.items in
    let n = size_is c.self.inside.size words c.args.self.now c.self.view_is in
    let inside : c.args.place < length words = omega (arith, n, c.requires, c.self.invariant.long) in
    let read : c.index-word.result.now ≡ get_or words c.args.place 0 = get_or_read words c.args.place c.index-word.result.now inside c.index-word.ensures 0 in
    let fits : c.index-word.result.now < 2 ^ 64 = omega arith in
    let first = rw (sym read) at (first_in_word c.self.inside.size words c.args.self.now c.args.place c.self.invariant c.self.view_is (rw read at fits) (rw read at (let some : 0 < c.index-word.result.now = omega (arith, c.if-word-eq0.false) in some))) in
    omega (arith, first.1, n, c.self.invariant.fits)

pub returns-clause-some : goal.returns-clause-some
returns-clause-some c =
    let words = c.self.inside.words.items in
    let n = size_is c.self.inside.size words c.args.self.now c.self.view_is in
    let inside : c.args.place < length words = omega (arith, n, c.requires, c.self.invariant.long) in
    let read : c.index-word.result.now ≡ get_or words c.args.place 0 = get_or_read words c.args.place c.index-word.result.now inside c.index-word.ensures 0 in
    let fits : c.index-word.result.now < 2 ^ 64 = omega arith in
    rw read (first_in_word c.self.inside.size words c.args.self.now c.args.place c.self.invariant c.self.view_is (rw read at fits) (rw read at (let some : 0 < c.index-word.result.now = omega (arith, c.if-word-eq0.false) in some))).2
