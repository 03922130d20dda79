use Rattle.std.proofs.Common.{rules, ◌≡◌, ◌∙◌, ℕ, ◌+◌, ◌-◌, ◌<◌, ◌≤◌, inl, inr, true, false, length, get_or, set, sym, arith, get_or-set_same, get_or-set_other}
use Rattle.std.proofs.lemmas.Bool.{cases_eq, cases_Bool}
use Rattle.digraphs.specs.Bits.{has}
use Rattle.std.proofs.Math.ListN.{length-set}
use Rattle.std.proofs.lemmas.List.{get_or_read}
use Rattle.digraph_orders.proofs.RankLemmas.{known_next, first_next, are_ranked, have_others}
use Rattle.digraph_orders.proofs.components.ranks_of.Goals as goal

pub loop-node-preserved : goal.loop-node-preserved
loop-node-preserved c =
    let i = c.loop-node.invariant in
    let marks = c.args.marks.items in
    let ranks = c.loop-node.ranks.items in
    let firsts = c.loop-node.firsts.items in
    let k = c.loop-node.node in
    let x = c.rank_of.result in
    let f = c.rank_of.ensures in
    let inside : k < length ranks = omega (arith, c.loop-node-test.true, c.len-node-end.ensures, i.long) in
    let mark = c.index.result.now in
    let b = c.args.base in
    let inside' : k < length marks = omega (arith, inside, i.long) in
    let read : get_or marks k 0 ≡ mark = omega (arith, get_or_read ranks k mark inside c.index.ensures 0, i.rest k (omega arith)) in
    let at : get_or marks k 0 ≡ (mark - b) + b = omega (arith, read, c.requires.low k inside') in
    let small : mark - b < length firsts = omega (arith, read, c.requires.low k inside', c.requires.high k inside', i.firsts_long) in
    let rest : (v : ℕ) → k + 1 ≤ v → get_or (set ranks k x) v 0 ≡ get_or marks v 0 = λ v h. get_or-set_other ranks k v x 0 (λ e. omega (arith, e, h)) ∙ i.rest v (omega (arith, h)) in
    elim (cases_Bool (has c.args.several.now k)) [
      | inr off ↦
          rw (f.same off)
          (record {
            long = length-set ranks k x ∙ i.long;
            firsts_long = i.firsts_long;
            rest = rest;
            lone = λ v h o. elim (cases_eq v k) [
              | inl e ↦ rw e (get_or-set_same ranks k x 0 inside ∙ f.lone off)
              | inr ne ↦ get_or-set_other ranks k v x 0 ne ∙ i.lone v (omega (arith, h, ne)) o
            ];
            first = λ v h on. elim (cases_eq v k) [
              | inl e ↦ absurd (let on' : has c.args.several.now k ≡ true = rw e at on in let q : true ≡ false = sym on' ∙ off in cc)
              | inr ne ↦ rw (get_or-set_other ranks k v x 0 ne) (i.first v (omega (arith, h, ne)) on)
            ];
            known = λ l some. let o = i.known l some in (omega (arith, o.0), o.1);
          })
      | inl on ↦
          record {
            long = length-set ranks k x ∙ i.long;
            firsts_long = f.long ∙ i.firsts_long;
            rest = rest;
            lone = λ v h o. elim (cases_eq v k) [
              | inl e ↦ absurd (let o' : has c.args.several.now k ≡ false = rw e at o in let q : true ≡ false = sym on ∙ o' in cc)
              | inr ne ↦ get_or-set_other ranks k v x 0 ne ∙ i.lone v (omega (arith, h, ne)) o
            ];
            first = first_next b marks firsts c.rank_of.new.firsts.items k (mark - b) x at small (f.found on) (f.known on) (f.added on) (λ v. has c.args.several.now v ≡ true) ranks inside i.first;
            known = known_next b marks firsts c.rank_of.new.firsts.items k (mark - b) x at small (f.found on) (f.known on) (f.added on) i.known;
          }
    ]

pub returns-clause-ranked : goal.returns-clause-ranked
returns-clause-ranked c =
    let i = c.loop-node.invariant in
    let n : c.len-node-end.result ≡ length c.args.marks.items = search rules in
    are_ranked c.args.base c.args.marks.items c.loop-node.ranks.items c.loop-node.firsts.items c.args.several.now i.long c.requires.low c.requires.alone
    (λ v h. i.lone v (omega (arith, h, n, c.loop-node-test.false))) (λ v h. i.first v (omega (arith, h, n, c.loop-node-test.false)))
    (λ l some. let o = i.known l some in (omega (arith, o.0, n, c.loop-node.auto.node-end), o.1))

pub returns-clause-others : goal.returns-clause-others
returns-clause-others c =
    let i = c.loop-node.invariant in
    let n : c.len-node-end.result ≡ length c.args.marks.items = search rules in
    have_others c.args.base c.args.marks.items c.loop-node.ranks.items c.loop-node.firsts.items c.args.several.now i.long c.requires.low c.requires.alone
    (λ v h. i.lone v (omega (arith, h, n, c.loop-node-test.false))) (λ v h. i.first v (omega (arith, h, n, c.loop-node-test.false)))
    (λ l some. let o = i.known l some in (omega (arith, o.0, n, c.loop-node.auto.node-end), o.1))
