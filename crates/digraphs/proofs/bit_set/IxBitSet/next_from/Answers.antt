use Rattle.std.proofs.Common.{rules, ◌≡◌, ◌<◌, ◌≤◌, ◌/◌, ◌%◌, ◌^◌, ◌*◌, ◌+◌, ℕ, List, Bool, length, get_or, ap, arith, vec_len}
use Rattle.std.proofs.lemmas.List.{get_or_read}
use Rattle.std.specs.Int.{w64, trailing_zeros}
use Rattle.digraphs.specs.inner.Words.{AreWords, bits_of, word_bit}
use Rattle.digraphs.proofs.BitLemmas.{size_is, IsNext, next_in_first, next_in_later, none_in_first, none_in_later, next_none}
use Rattle.digraphs.proofs.bit_set.IxBitSet.next_from.Goals as goal

-- If the shifted first word isn't 0, the code finds the next member in it.
in_first : (n : ℕ) (words : List ℕ) (now : List Bool) (from read : ℕ) → AreWords n words → bits_of n words ≡ now → from ≤ length now → read ≡ get_or words (from / 64) read → read < 2 ^ 64 → (read / 2 ^ (from % 64) ≡ 0 → ⊥) → (from % 64 + trailing_zeros w64 (read / 2 ^ (from % 64)) < 64) × IsNext now from (from + trailing_zeros w64 (read / 2 ^ (from % 64)))
in_first n words now from read a e le is fits some =
    let size = size_is n words now e in
    let inside : from / 64 < length words = omega (arith, a.long) in
    let read_is : read ≡ get_or words (from / 64) 0 = get_or_read words (from / 64) read inside is 0 in
    next_in_first n words now from (read / 2 ^ (from % 64)) a e (rw read_is at fits) (ap (λ (x : ℕ). x / 2 ^ (from % 64)) read_is) (omega arith)

-- If the first nonzero word is a later one, the code finds the next member in it.
in_later : (n : ℕ) (words : List ℕ) (now : List Bool) (from place read : ℕ) → AreWords n words → bits_of n words ≡ now → place < length words → read ≡ get_or words place read → read < 2 ^ 64 → from / 64 < place → ((j : ℕ) → from ≤ j → j < place * 64 → word_bit words j ≡ 0) → (read ≡ 0 → ⊥) → (trailing_zeros w64 read < 64) × IsNext now from (place * 64 + trailing_zeros w64 read)
in_later n words now from place read a e inside is fits after none some =
    let read_is : read ≡ get_or words place 0 = get_or_read words place read inside is 0 in
    rw read_is (next_in_later n words now from place a e (rw read_is at fits) (omega arith) none (rw read_is at (let pos : 0 < read = omega arith in pos)))

pub index-requires : goal.index-requires
index-requires c =
    let n = size_is c.self.inside.size c.self.inside.words.items c.args.self.now c.self.view_is in
    let v : vec_len c.self.inside.words ≡ length c.self.inside.words.items = search rules in
    omega (arith, n, v, c.requires, c.self.invariant.long)

pub overflow_add-result : goal.overflow_add-result
overflow_add-result c =
    let fits : c.index.result.now < 2 ^ 64 = omega arith in
    let next = in_first c.self.inside.size c.self.inside.words.items c.args.self.now c.args.from c.index.result.now c.self.invariant c.self.view_is c.requires c.index.ensures fits c.if-word-ne0.true in
    omega (arith, next.0, c.ranges.from.fits)

pub returns-then-word-ne0 : goal.returns-then-word-ne0
returns-then-word-ne0 c =
    let fits : c.index.result.now < 2 ^ 64 = omega arith in
    let next = in_first c.self.inside.size c.self.inside.words.items c.args.self.now c.args.from c.index.result.now c.self.invariant c.self.view_is c.requires c.index.ensures fits c.if-word-ne0.true in
    record {
      fits = omega (arith, c.self.invariant.fits, size_is c.self.inside.size c.self.inside.words.items c.args.self.now c.self.view_is);
      least = (next.1.after, next.1.inside, next.1.list);
    }

pub overflow_mul-result : goal.overflow_mul-result
overflow_mul-result c =
    let v : vec_len c.self.inside.words ≡ length c.self.inside.words.items = search rules in
    let inside : c.loop-place.place < length c.self.inside.words.items = omega (arith, v) in
    omega (arith, inside, c.self.invariant.long, c.self.invariant.fits)

pub overflow_add-result-then-word-ne0-2 : goal.overflow_add-result-then-word-ne0-2
overflow_add-result-then-word-ne0-2 c =
    let v : vec_len c.self.inside.words ≡ length c.self.inside.words.items = search rules in
    let size = size_is c.self.inside.size c.self.inside.words.items c.args.self.now c.self.view_is in
    let inside : c.loop-place.place < length c.self.inside.words.items = omega (arith, v) in
    let next = in_later c.self.inside.size c.self.inside.words.items c.args.self.now c.args.from c.loop-place.place c.index-word.result.now c.self.invariant c.self.view_is inside c.index-word.ensures (let fits : c.index-word.result.now < 2 ^ 64 = omega arith in fits) (omega arith) c.loop-place.invariant c.if-word-ne0-2.true in
    omega (arith, next.1.inside, c.self.invariant.fits, size)

pub returns-then-word-ne0-2 : goal.returns-then-word-ne0-2
returns-then-word-ne0-2 c =
    let v : vec_len c.self.inside.words ≡ length c.self.inside.words.items = search rules in
    let inside : c.loop-place.place < length c.self.inside.words.items = omega (arith, v) in
    let fits : c.index-word.result.now < 2 ^ 64 = omega arith in
    let next = in_later c.self.inside.size c.self.inside.words.items c.args.self.now c.args.from c.loop-place.place c.index-word.result.now c.self.invariant c.self.view_is inside c.index-word.ensures fits (omega arith) c.loop-place.invariant c.if-word-ne0-2.true in
    record {
      fits = omega (arith, c.self.invariant.fits, size_is c.self.inside.size c.self.inside.words.items c.args.self.now c.self.view_is);
      least = (next.1.after, next.1.inside, next.1.list);
    }

pub loop-place-init : goal.loop-place-init
loop-place-init c =
    let n = size_is c.self.inside.size c.self.inside.words.items c.args.self.now c.self.view_is in
    let inside : c.args.from / 64 < length c.self.inside.words.items = omega (arith, n, c.requires, c.self.invariant.long) in
    let read_is : c.index.result.now ≡ get_or c.self.inside.words.items (c.args.from / 64) 0 = get_or_read c.self.inside.words.items (c.args.from / 64) c.index.result.now inside c.index.ensures 0 in
    none_in_first c.self.inside.words.items c.args.from (rw read_is at c.if-word-ne0.false)

pub loop-place-preserved : goal.loop-place-preserved
loop-place-preserved c =
    let v : vec_len c.self.inside.words ≡ length c.self.inside.words.items = search rules in
    let inside : c.loop-place.place < length c.self.inside.words.items = omega (arith, v) in
    let read_is : c.index-word.result.now ≡ get_or c.self.inside.words.items c.loop-place.place 0 = get_or_read c.self.inside.words.items c.loop-place.place c.index-word.result.now inside c.index-word.ensures 0 in
    none_in_later c.self.inside.words.items c.args.from c.loop-place.place (rw read_is at c.if-word-ne0-2.false) c.loop-place.invariant

pub returns-clause-least : goal.returns-clause-least
returns-clause-least c =
    let v : vec_len c.self.inside.words ≡ length c.self.inside.words.items = search rules in
    let n = size_is c.self.inside.size c.self.inside.words.items c.args.self.now c.self.view_is in
    next_none c.self.inside.size c.self.inside.words.items c.args.self.now c.args.from c.self.invariant c.self.view_is (omega (arith, n, c.requires))
    (λ j from_j j_below. c.loop-place.invariant j from_j (omega (arith, v)))

pub returns-clause-fits : goal.returns-clause-fits
returns-clause-fits c = omega (arith, c.self.invariant.fits, size_is c.self.inside.size c.self.inside.words.items c.args.self.now c.self.view_is)
