use Rattle.std.proofs.Common.{◌≡◌, ◌<◌, ◌∙◌, Some, ap, length, arith, subst, sym}
use Rattle.std.specs.Prelude.{slice_get}
use Rattle.guppy_packages.specs.Parts.{first_text}
use Rattle.guppy_packages.proofs.RunLemmas.{run_first, run_long}
use Rattle.guppy_packages.proofs.text_run.TextRun.first.Goals as goal

pub text-requires : goal.text-requires
text-requires c =
    let r = c.self.inside in
    let within : r.first < length r.list.value = omega (arith, c.requires, ap length c.self.view_is, run_long r.list.value r.first r.count c.self.invariant.0, c.self.invariant.0) in
    rw c.deref.ensures within

pub returns : goal.returns
returns c =
    let r = c.self.inside in
    let some = subst (λ ts. 0 < length ts) (sym c.self.view_is) c.requires in
    let at = subst (λ ts. slice_get ts r.first ≡ Some c.text.result.now) c.deref.ensures c.text.ensures in
    run_first r.list.value r.first r.count c.self.invariant.0 c.text.result.now some at ∙ ap first_text c.self.view_is
