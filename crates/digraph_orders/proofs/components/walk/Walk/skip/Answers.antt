use Rattle.std.proofs.Common.{rules, ◌≡◌, ◌+◌, ◌-◌, ◌<◌, ℕ, length, get_or, arith, refl}
use Rattle.std.proofs.lemmas.List.{get_or_read}
use Rattle.std.proofs.lemmas.List.Sums.{sum_by-set}
use Rattle.digraph_orders.proofs.ComponentLemmas.{stepped}
use Rattle.digraph_orders.proofs.components.walk.Walk.skip.Goals as goal

pub loop-self-preserved : goal.loop-self-preserved
loop-self-preserved c =
    let g = c.args.graph.now in
    let s = c.loop-self.self in
    let i = c.loop-self.invariant in
    let w = i.walk.0 in
    let last = length s.opened.items - 1 in
    let opened : 0 < length s.opened.items = rw i.opened c.requires.opened in
    let top : get_or s.opened.items last 0 ≡ c.args.top = rw i.opened c.requires.top in
    let some : last + 1 ≡ length s.opened.items = omega (arith, opened) in
    let long : c.len-last.result ≡ length s.left.items = search rules in
    let at : c.len-last.result - 1 ≡ last = omega (arith, long, w.left_long) in
    let left_last : length s.left.items - 1 ≡ last = omega (arith, w.left_long) in
    let read : c.index_mut.result.now ≡ get_or s.left.items (c.len-last.result - 1) 0 =
    get_or_read s.left.items (c.len-last.result - 1) c.index_mut.result.now (omega (arith, at, some, w.left_long)) c.index_mut.ensures.value 0 in
    let read' : c.index_mut.result.now ≡ get_or s.left.items last 0 = rw at at read in
    let positive : 0 < get_or s.left.items last 0 = rw left_last at (c.loop-self-test.ensures.some refl) in
    let mark = i.walk.1.levels _ (rw left_last at (c.loop-self-test.ensures.finished refl)) in
    let sum = sum_by-set (λ (k : ℕ). k) s.left.items last (c.index_mut.result.now - 1) 0 (omega (arith, some, w.left_long)) in
    record {
      walk = (
        rw at
            (stepped g s.marks.items s.pending.items s.bounds.items s.opened.items s.left.items s.level w c.args.top last some top (c.index_mut.result.now - 1)
            (omega (arith, read', positive)) (λ b h. omega (arith, (w.bounds_open b h).0, w.room, w.level_high, mark))),
        i.walk.1,
      );
      opened = i.opened;
      steps = rw at (omega (arith, sum, read', positive, i.steps));
      kept = i.kept;
    }
