use Rattle.std.proofs.Common.{◌≡◌, ◌∙◌, ◌-◌, Bool, true, false, length, ap, sym, arith}
use Rattle.std.specs.Prelude.{◌||◌, nat_lt}
use Rattle.guppy_support.specs.Cycles.{nodes_of, has_cycle, descending, cyclic_components}
use Rattle.guppy_support.proofs.LoopLemmas.{descending_more}
use Rattle.guppy_support.proofs.RootLemmas.{kept_more, passed_more, kept_all}
use Rattle.guppy_support.proofs.cycles.cyclic_components.Goals as goal

pub loop-component-preserved-in-Continue-branch-2 : goal.loop-component-preserved-in-Continue-branch-2
loop-component-preserved-in-Continue-branch-2 c =
    let es = c.args.digraph.now.edges in
    let o = c.args.order.now in
    let k = c.loop-component.component - 1 in
    let i = c.loop-component.invariant in
    let noted = c.in_ok-looped.ensures.looped k (omega (arith, i.within)) in
    let is : has_cycle es o k ≡ true = ap (λ (b : Bool). nat_lt 1 (length (nodes_of o k)) || b) (sym noted) ∙ sym c.is_large_or_noted.ensures ∙ c.if-is_large_or_noted.true in
    record {
      within = omega (arith, i.within);
      cyclic = rw c.in_ok-push.ensures.items (kept_more (has_cycle es o) c.loop-component.cyclic.items (descending c.loop-component.component) (descending k) (cyclic_components es o) k (descending_more c.loop-component.component (omega arith)) is i.cyclic);
    }

pub loop-component-preserved : goal.loop-component-preserved
loop-component-preserved c =
    let es = c.args.digraph.now.edges in
    let o = c.args.order.now in
    let k = c.loop-component.component - 1 in
    let i = c.loop-component.invariant in
    let noted = c.in_ok-looped.ensures.looped k (omega (arith, i.within)) in
    let is : has_cycle es o k ≡ false = ap (λ (b : Bool). nat_lt 1 (length (nodes_of o k)) || b) (sym noted) ∙ sym c.is_large_or_noted.ensures ∙ c.if-is_large_or_noted.false in
    record {
      within = omega (arith, i.within);
      cyclic = passed_more (has_cycle es o) c.loop-component.cyclic.items (descending c.loop-component.component) (descending k) (cyclic_components es o) k (descending_more c.loop-component.component (omega arith)) is i.cyclic;
    }

pub returns : goal.returns
returns c =
    let es = c.args.digraph.now.edges in
    let o = c.args.order.now in
    let none : c.loop-component.component ≡ 0 = omega arith in
    kept_all (has_cycle es o) c.loop-component.cyclic.items (descending c.loop-component.component) (cyclic_components es o) (ap descending none) c.loop-component.invariant.cyclic
