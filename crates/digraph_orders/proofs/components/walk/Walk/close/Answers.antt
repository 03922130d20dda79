use Rattle.std.proofs.Common.{rules, ◌≡◌, ◌+◌, ◌-◌, ◌<◌, ◌≤◌, ◌++◌, ◌∷◌, [], inl, inr, Some, ap, ◌∙◌, length, get_or, arith, vec_len}
use Rattle.std.proofs.lemmas.Bool.{cases_eq}
use Rattle.std.proofs.lemmas.List.{get_or_read, length-take}
use Rattle.std.specs.Prelude.{sum_by}
use Rattle.std.proofs.lemmas.List.Sums.{sum_by-append}
use Rattle.digraph_orders.specs.inner.ComponentWalk.{IsMore, IsFrontOf, AreGiven, unentered}
use Rattle.digraph_orders.proofs.OutEdgeLemmas.{length_push}
use Rattle.digraph_orders.proofs.ComponentLemmas.{more_from, front_take, bound_low, bounded, closed_inner, closed_root, unentered_given}
use Rattle.digraph_orders.proofs.WalkLemmas.{finished_given}
use Rattle.digraph_orders.proofs.components.walk.Walk.close.Goals as goal

pub returns-then-index-place-clause-walk : goal.returns-then-index-place-clause-walk
returns-then-index-place-clause-walk c =
    let g = c.args.graph.now in
    let s = c.args.self.now in
    let w = c.requires.walk.0 in
    let last = length s.opened.items - 1 in
    let some : last + 1 ≡ length s.opened.items = omega (arith, c.requires.opened) in
    let left_last : length s.left.items - 1 ≡ last = omega (arith, w.left_long) in
    let n : vec_len s.opened ≡ length s.opened.items = search rules in
    let at : get_or s.opened.items (vec_len s.opened - 1) 0 ≡ c.args.top = rw n c.requires.top in
    let r : c.pop.result ≡ Some c.args.top = c.pop.ensures.value 0 (search rules) ∙ ap Some at in
    let opened : IsMore c.pop.new.self.items s.opened.items c.args.top = more_from _ _ _ (rw r at c.pop.ensures.items) in
    let n2 : vec_len s.left ≡ length s.left.items = search rules in
    let at2 : get_or s.left.items (vec_len s.left - 1) 0 ≡ 0 = rw n2 c.requires.none in
    let r2 : c.pop-2.result ≡ Some 0 = c.pop-2.ensures.value 0 (omega (arith, n2, w.left_long, c.requires.opened)) ∙ ap Some at2 in
    let left : IsMore c.pop-2.new.self.items s.left.items 0 = more_from _ _ _ (rw r2 at c.pop-2.ensures.items) in
    let none : get_or s.left.items last 0 ≡ 0 = rw left_last at c.requires.none in
    let mark : c.index.result.now ≡ get_or s.marks.items c.args.top 0 = get_or_read s.marks.items c.args.top c.index.result.now (search rules) c.index.ensures 0 in
    let long : c.len.result ≡ length s.bounds.items = search rules in
    let bounds_some = bounded g s.marks.items s.pending.items s.bounds.items s.opened.items s.left.items s.level w c.args.top last some c.requires.top in
    let bound = get_or_read s.bounds.items (c.len.result - 1) c.index-2.result.now (omega (arith, long, bounds_some)) c.index-2.ensures 0 in
    let bound' : c.index-2.result.now ≡ get_or s.bounds.items (length s.bounds.items - 1) 0 = rw long at bound in (
      closed_inner g s.marks.items s.pending.items s.bounds.items s.opened.items s.left.items s.level w c.args.top last some c.requires.top none _ _ opened left
          (λ b h e.
          elim (cases_eq b (length s.bounds.items - 1)) [
            | inl q ↦ let e' : get_or s.bounds.items (length s.bounds.items - 1) 0 + 1 ≡ get_or s.marks.items c.args.top 0 = rw q at e in omega (arith, e', bound', mark, c.if-index-place.true)
            | inr ne ↦ omega (arith, e, bound', mark, c.if-index-place.true, w.bounds_rise b (length s.bounds.items - 1) (omega (arith, h, ne)) (omega (arith, h)))
          ]),
      c.requires.walk.1,
    )

pub returns-clause-walk : goal.returns-clause-walk
returns-clause-walk c =
    let g = c.args.graph.now in
    let s = c.args.self.now in
    let w = c.requires.walk.0 in
    let last = length s.opened.items - 1 in
    let some : last + 1 ≡ length s.opened.items = omega (arith, c.requires.opened) in
    let left_last : length s.left.items - 1 ≡ last = omega (arith, w.left_long) in
    let n : vec_len s.opened ≡ length s.opened.items = search rules in
    let at : get_or s.opened.items (vec_len s.opened - 1) 0 ≡ c.args.top = rw n c.requires.top in
    let r : c.pop.result ≡ Some c.args.top = c.pop.ensures.value 0 (search rules) ∙ ap Some at in
    let opened : IsMore c.pop.new.self.items s.opened.items c.args.top = more_from _ _ _ (rw r at c.pop.ensures.items) in
    let n2 : vec_len s.left ≡ length s.left.items = search rules in
    let at2 : get_or s.left.items (vec_len s.left - 1) 0 ≡ 0 = rw n2 c.requires.none in
    let r2 : c.pop-2.result ≡ Some 0 = c.pop-2.ensures.value 0 (omega (arith, n2, w.left_long, c.requires.opened)) ∙ ap Some at2 in
    let left : IsMore c.pop-2.new.self.items s.left.items 0 = more_from _ _ _ (rw r2 at c.pop-2.ensures.items) in
    let none : get_or s.left.items last 0 ≡ 0 = rw left_last at c.requires.none in
    let mark : c.index.result.now ≡ get_or s.marks.items c.args.top 0 = get_or_read s.marks.items c.args.top c.index.result.now (search rules) c.index.ensures 0 in
    let long : c.len.result ≡ length s.bounds.items = search rules in
    let bounds_some = bounded g s.marks.items s.pending.items s.bounds.items s.opened.items s.left.items s.level w c.args.top last some c.requires.top in
    let bound = get_or_read s.bounds.items (c.len.result - 1) c.index-2.result.now (omega (arith, long, bounds_some)) c.index-2.ensures 0 in
    let bound' : c.index-2.result.now ≡ get_or s.bounds.items (length s.bounds.items - 1) 0 = rw long at bound in
    let low = bound_low g s.marks.items s.pending.items s.bounds.items s.opened.items s.left.items s.level w c.args.top last some c.requires.top (length s.bounds.items - 1) (omega (arith, bounds_some)) in
    let place = c.index.result.now - 1 in
    let n3 : vec_len s.bounds ≡ length s.bounds.items = search rules in
    let at3 : get_or s.bounds.items (vec_len s.bounds - 1) 0 ≡ place = rw n3 (omega (arith, bound', mark, low, c.if-index-place.false)) in
    let r3 : c.pop-3.result ≡ Some place = c.pop-3.ensures.value 0 (omega (arith, n3, bounds_some)) ∙ ap Some at3 in
    let bounds : IsMore c.pop-3.new.self.items s.bounds.items place = more_from _ _ _ (rw r3 at c.pop-3.ensures.items) in
    let top_at : get_or s.marks.items c.args.top 0 ≡ place + 1 = omega (arith, mark, low) in
    let within : place ≤ length s.pending.items = omega (arith, mark, (rw c.requires.top at (w.opened_pending last (omega (arith, some)))).1) in
    let marked : 0 < length s.pending.items = omega (arith, top_at, (rw c.requires.top at (w.opened_pending last (omega (arith, some)))).1) in
    let given : AreGiven s.marks.items c.give.new.marks.items place (length s.pending.items) s.level = rw c.deref.ensures.value at c.give.ensures.given in
    let front : IsFrontOf s.pending.items c.truncate.new.self.items = rw c.truncate.ensures.items (front_take place s.pending.items) in
    let short : length c.truncate.new.self.items ≡ place = rw c.truncate.ensures.items (omega (arith, length-take place s.pending.items, within)) in (
      closed_root g s.marks.items s.pending.items s.bounds.items s.opened.items s.left.items s.level w c.args.top last some c.requires.top none _ _ opened left
          c.pop-3.new.self.items c.truncate.new.self.items c.give.new.marks.items place (s.level - 1) bounds top_at front short given c.give.ensures.long (omega (arith, w.room, marked)),
      finished_given g s.marks.items c.give.new.marks.items s.pending.items s.bounds.items s.opened.items s.left.items place s.level w given
          (omega (arith, top_at, (rw c.requires.top at (w.opened_pending last (omega (arith, some)))).1)) s.finished c.give.new.finished s.several c.note_several.new.several c.requires.walk.1 c.give.ensures.finished_long
          c.note_several.ensures.long (rw c.deref.ensures.value at c.give.ensures.only) c.note_several.ensures.kept (rw c.deref-2.ensures.value at c.note_several.ensures.all),
    )

pub returns-clause-steps : goal.returns-clause-steps
returns-clause-steps c =
    let g = c.args.graph.now in
    let s = c.args.self.now in
    let w = c.requires.walk.0 in
    let last = length s.opened.items - 1 in
    let some : last + 1 ≡ length s.opened.items = omega (arith, c.requires.opened) in
    let left_last : length s.left.items - 1 ≡ last = omega (arith, w.left_long) in
    let n : vec_len s.opened ≡ length s.opened.items = search rules in
    let at : get_or s.opened.items (vec_len s.opened - 1) 0 ≡ c.args.top = rw n c.requires.top in
    let r : c.pop.result ≡ Some c.args.top = c.pop.ensures.value 0 (search rules) ∙ ap Some at in
    let opened_items : s.opened.items ≡ c.pop.new.self.items ++ c.args.top ∷ [] = rw r at c.pop.ensures.items in
    let n2 : vec_len s.left ≡ length s.left.items = search rules in
    let at2 : get_or s.left.items (vec_len s.left - 1) 0 ≡ 0 = rw n2 c.requires.none in
    let r2 : c.pop-2.result ≡ Some 0 = c.pop-2.ensures.value 0 (omega (arith, n2, w.left_long, c.requires.opened)) ∙ ap Some at2 in
    let left_items : s.left.items ≡ c.pop-2.new.self.items ++ 0 ∷ [] = rw r2 at c.pop-2.ensures.items in
    let none : get_or s.left.items last 0 ≡ 0 = rw left_last at c.requires.none in
    let mark : c.index.result.now ≡ get_or s.marks.items c.args.top 0 = get_or_read s.marks.items c.args.top c.index.result.now (search rules) c.index.ensures 0 in
    let long : c.len.result ≡ length s.bounds.items = search rules in
    let bounds_some = bounded g s.marks.items s.pending.items s.bounds.items s.opened.items s.left.items s.level w c.args.top last some c.requires.top in
    let bound = get_or_read s.bounds.items (c.len.result - 1) c.index-2.result.now (omega (arith, long, bounds_some)) c.index-2.ensures 0 in
    let bound' : c.index-2.result.now ≡ get_or s.bounds.items (length s.bounds.items - 1) 0 = rw long at bound in
    let low = bound_low g s.marks.items s.pending.items s.bounds.items s.opened.items s.left.items s.level w c.args.top last some c.requires.top (length s.bounds.items - 1) (omega (arith, bounds_some)) in
    let place = c.index.result.now - 1 in
    let given : AreGiven s.marks.items c.give.new.marks.items place (length s.pending.items) s.level = rw c.deref.ensures.value at c.give.ensures.given in
    let same : unentered g.nodes c.give.new.marks.items ≡ unentered g.nodes s.marks.items =
    unentered_given g s.marks.items s.pending.items s.bounds.items s.opened.items s.left.items s.level w c.give.new.marks.items place given
    in
    let sums : sum_by (λ k. k) s.left.items ≡ sum_by (λ k. k) c.pop-2.new.self.items = rw left_items (omega (arith, sum_by-append (λ k. k) c.pop-2.new.self.items (0 ∷ []))) in
    let shorter : length s.opened.items ≡ length c.pop.new.self.items + 1 = rw opened_items (length_push c.pop.new.self.items c.args.top) in
    rw (same, sums) (omega (arith, shorter))
