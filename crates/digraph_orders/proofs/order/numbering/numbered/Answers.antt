use Rattle.std.proofs.Common.{rules, ◌≡◌, ◌∙◌, ◌-◌, ◌<◌, ◌++◌, ◌∷◌, [], inl, inr, length, get_or, refl, sym, arith}
use Rattle.std.proofs.Math.ListN.{length-set}
use Rattle.std.proofs.lemmas.Bool.{cases_eq}
use Rattle.std.proofs.lemmas.List.{get_or_read, length-replicate, length-append}
use Rattle.digraph_orders.proofs.SequenceLemmas.{ranks_compared, numbering_none, numbering_more, begun_last, written, unwritten, more_last, more_kept}
use Rattle.digraph_orders.proofs.order.numbering.numbered.Goals as goal

pub loop-place-init : goal.loop-place-init
loop-place-init c =
    record {
      numbers = [];
      numbering = rw c.in_ok-begins.ensures.items (numbering_none c.args.list.now c.args.ranks.items);
      few = rw c.in_ok-begins.ensures.items (omega arith);
      long = c.requires.room;
      places_long = rw c.in_ok-places.ensures (length-replicate (length c.args.list.now) 0);
      last_rank = λ i e. absurd (omega (arith, e));
      put = λ i h. absurd (omega (arith, h));
      rest = λ i a h. refl;
      placed = λ i h. absurd (omega (arith, h));
    }

pub overflow_sub-len : goal.overflow_sub-len
overflow_sub-len c =
    let i = c.loop-place.invariant in
    let list = c.args.list.now in
    let ranks = c.args.ranks.items in
    let k = c.loop-place.place in
    let node = get_or list k 0 in
    let components = c.loop-place.components.items in
    let begins = c.loop-place.begins.items in
    let begins' = c.begin_at.new.begins.items in
    let e = c.in_ok-begin_at.ensures in
    let inside : k < length list = omega (arith, c.loop-place-test.true) in
    let read : c.index-rank.result.now ≡ get_or components node 0 = get_or_read components node c.index-rank.result.now (omega (arith, c.requires.nodes k inside, i.long)) c.index-rank.ensures 0 in
    let compared = ranks_compared list ranks begins begins' k c.loop-place.last c.index-rank.result.now i.last_rank (read ∙ i.rest k (omega arith) inside) e.stays e.steps in
    let m = numbering_more list ranks i.numbers begins begins' k i.numbering e.first compared.0 compared.1 in
    let n : c.len.result ≡ length begins' = search rules in
    omega (arith, m.0, n)

pub loop-place-preserved : goal.loop-place-preserved
loop-place-preserved c =
    let i = c.loop-place.invariant in
    let list = c.args.list.now in
    let ranks = c.args.ranks.items in
    let k = c.loop-place.place in
    let node = get_or list k 0 in
    let components = c.loop-place.components.items in
    let begins = c.loop-place.begins.items in
    let begins' = c.begin_at.new.begins.items in
    let e = c.in_ok-begin_at.ensures in
    let inside : k < length list = omega (arith, c.loop-place-test.true) in
    let read : c.index-rank.result.now ≡ get_or components node 0 = get_or_read components node c.index-rank.result.now (omega (arith, c.requires.nodes k inside, i.long)) c.index-rank.ensures 0 in
    let compared = ranks_compared list ranks begins begins' k c.loop-place.last c.index-rank.result.now i.last_rank (read ∙ i.rest k (omega arith) inside) e.stays e.steps in
    let m = numbering_more list ranks i.numbers begins begins' k i.numbering e.first compared.0 compared.1 in
    let n : c.len.result ≡ length begins' = search rules in
    let x = c.len.result - 1 in
    let numbers = i.numbers ++ x ∷ [] in
    let places = c.loop-place.places.items in
    record {
      numbers = numbers;
      numbering = rw n m.1;
      few = omega (arith, e.few, i.few);
      long = length-set components node x ∙ i.long;
      places_long = length-set places node k ∙ i.places_long;
      last_rank = λ j q. let is : j ≡ k = omega (arith, q) in rw is (sym (read ∙ i.rest k (omega arith) inside));
      put = λ j h. elim (cases_eq j k) [
        | inl is ↦ rw is (written list components k x inside i.long c.requires.nodes c.requires.apart ∙ sym (more_last i.numbers x k i.numbering.long))
        | inr ne ↦
            unwritten list components k x inside i.long c.requires.nodes c.requires.apart j (omega (arith, h, inside)) ne
            ∙ i.put j (omega (arith, h, ne))
            ∙ sym (more_kept i.numbers x j (omega (arith, h, ne, i.numbering.long)))
      ];
      rest = λ j a h. unwritten list components k x inside i.long c.requires.nodes c.requires.apart j h (λ q. omega (arith, q, a)) ∙ i.rest j (omega (arith, a)) h;
      placed = λ j h. elim (cases_eq j k) [
        | inl is ↦ rw is (written list places k k inside i.places_long c.requires.nodes c.requires.apart)
        | inr ne ↦ unwritten list places k k inside i.places_long c.requires.nodes c.requires.apart j (omega (arith, h, inside)) ne ∙ i.placed j (omega (arith, h, ne))
      ];
    }

pub overflow_cast-len : goal.overflow_cast-len
overflow_cast-len c =
    let n : c.len.result ≡ length c.begin_at.new.begins.items = search rules in
    omega (arith, n, c.in_ok-begin_at.ensures.few, c.loop-place.invariant.few, c.requires.narrow, c.loop-place-test.true)

pub returns-clause-numbers : goal.returns-clause-numbers
returns-clause-numbers c =
    let i = c.loop-place.invariant in
    let w = i.numbering in
    let begins = c.loop-place.begins.items in
    let end : c.loop-place.place ≡ length c.args.list.now = omega (arith, c.loop-place-test.false, c.loop-place.auto.place-end) in
    let count : length (begins ++ length c.args.list.now ∷ []) - 1 ≡ length begins = omega (arith, length-append begins (length c.args.list.now ∷ [])) in
    rw c.in_ok-push.ensures.items
    (record {
      numbers = i.numbers;
      long = omega (arith, w.long, end);
      are = rw count w.numbered;
      begun = begun_last i.numbers begins _ w.begun w.low (omega (arith, w.long, end));
      put = λ j h. i.put j (omega (arith, h, end));
    })

pub returns-clause-places : goal.returns-clause-places
returns-clause-places c =
    let i = c.loop-place.invariant in
    let end : c.loop-place.place ≡ length c.args.list.now = omega (arith, c.loop-place-test.false, c.loop-place.auto.place-end) in
    record { long = i.places_long; each = λ j h. i.placed j (omega (arith, h, end)) }
