use Rattle.std.proofs.Common.{◌≡◌, ◌+◌, ◌<◌, ◌∙◌, Some, ap, drop, length, arith, subst, sym}
use Rattle.std.specs.Prelude.{slice_get}
use Rattle.guppy_packages.proofs.RunLemmas.{later_within, run_later}
use Rattle.guppy_packages.proofs.text_run.TextRun.later.Goals as goal

pub overflow_add-self-inside-2 : goal.overflow_add-self-inside-2
overflow_add-self-inside-2 c =
    let r = c.self.inside in
    let some = subst (λ ts. c.args.ix < length (drop 1 ts)) (sym c.self.view_is) c.requires in
    omega (arith, later_within r.list.value r.first r.count c.self.invariant.0 c.args.ix some, c.self.invariant.1)

pub text-requires : goal.text-requires
text-requires c =
    let r = c.self.inside in
    let some = subst (λ ts. c.args.ix < length (drop 1 ts)) (sym c.self.view_is) c.requires in
    let within : r.first + 1 + c.args.ix < length r.list.value = omega (arith, c.self.invariant.0, later_within r.list.value r.first r.count c.self.invariant.0 c.args.ix some) in
    rw c.deref.ensures within

pub returns : goal.returns
returns c =
    let r = c.self.inside in
    let some = subst (λ ts. c.args.ix < length (drop 1 ts)) (sym c.self.view_is) c.requires in
    let at = subst (λ ts. slice_get ts (r.first + 1 + c.args.ix) ≡ Some c.text.result.now) c.deref.ensures c.text.ensures in
    ap (λ ts. slice_get (drop 1 ts) c.args.ix) (sym c.self.view_is) ∙ run_later r.list.value r.first r.count c.self.invariant.0 c.args.ix some c.text.result.now at
