use Rattle.std.proofs.Common.{◌≡◌, ◌∙◌, [], refl, sym, length, vec_len, arith}
use Rattle.std.proofs.lemmas.Bool.{eqb-true}
use Rattle.std.proofs.lemmas.List.{nil_from_length}
use Rattle.shortest_routes.proofs.SearchLemmas.{fewer_left, searched_all, searched_next}
use Rattle.shortest_routes.proofs.search.search.Goals as goal

pub loop-alloc-init : goal.loop-alloc-init
loop-alloc-init c = record { size = refl; searched = λ links targets before w. w }

pub loop-alloc-preserved : goal.loop-alloc-preserved
loop-alloc-preserved c = record {
  size = c.in_ok-level.ensures.grows.size ∙ c.loop-alloc.invariant.size;
  searched = λ links targets before w.
      searched_next links targets c.args.lists.now c.loop-alloc.distance c.in_ok-distance.distance c.loop-alloc.level.items c.deref.result.now c.in_ok-level.level.items c.loop-alloc.steps.items
      c.next_level.new.steps.items c.in_ok-distance.ensures c.deref.ensures.value before (c.loop-alloc.invariant.searched links targets before w) c.in_ok-level.ensures.grows c.in_ok-level.ensures.all;
}

pub loop-alloc-smaller : goal.loop-alloc-smaller
loop-alloc-smaller c =
    let long : vec_len c.loop-alloc.level ≡ length c.loop-alloc.level.items = omega (arith, c.loop-alloc.level.ok.0) in
    fewer_left c.loop-alloc.steps.items c.next_level.new.steps.items c.loop-alloc.level.items c.in_ok-level.level.items (vec_len c.loop-alloc.level) c.is_empty.result long c.is_empty.ensures c.loop-alloc-test.true
    c.in_ok-level.ensures.grows.fewer

pub returns : goal.returns
returns c = λ links targets before w.
    let zero_long : vec_len c.loop-alloc.level ≡ 0 = eqb-true (vec_len c.loop-alloc.level) 0 (sym c.is_empty.ensures ∙ c.loop-alloc-test.false) in
    let long : length c.loop-alloc.level.items ≡ 0 = omega (arith, c.loop-alloc.level.ok.0) in
    let none : c.loop-alloc.level.items ≡ [] = nil_from_length c.loop-alloc.level.items long in
    searched_all links targets c.loop-alloc.distance c.loop-alloc.level.items c.loop-alloc.steps.items (c.loop-alloc.invariant.searched links targets before w) none
