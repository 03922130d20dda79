use Rattle.std.proofs.Common.{◌≡◌, true, false, refl, ap, length}
use Rattle.std.specs.Str.Iter.{chars_rest}
use Rattle.platform_specs.specs.inner.FactReading.{waiting, fact_step, fact_state}
use Rattle.platform_specs.proofs.Runs.{went, stuck}
use Rattle.platform_specs.proofs.Places.{at_start, at_next, at_stop, at_end}
use Rattle.platform_specs.proofs.Lines.{stopped_line, ended_line}
use Rattle.platform_specs.proofs.target_cfg.fact_in.Goals as goal

pub text-init : goal.text-init
text-init c = at_start (fact_step false) waiting c.args.line.now _ _ _ c.utf8.line c.chars-rest.ensures.rest refl c.new-reader.ensures

pub returns-then-not-branch : goal.returns-then-not-branch
returns-then-not-branch c =
    let f : c.in_ok-step.field-0 ≡ false = cc in
    stopped_line c.args.line.now c.text.left
    (at_stop (fact_step false) waiting c.args.line.now (chars_rest c.text.rest) (chars_rest c.next.new.self) c.text.left c.in-Some.c (fact_state c.text.reader) c.text.invariant c.in-Some.ensures.steps.0
    (stuck c.in_ok-step.field-0 _ _ c.in_ok-step.ensures f))

pub text-preserved : goal.text-preserved
text-preserved c =
    let f : c.in_ok-step.field-0 ≡ true = cc in
    at_next (fact_step false) waiting c.args.line.now (chars_rest c.text.rest) (chars_rest c.next.new.self) c.text.left (length c.as_str-left.result.now) c.in-Some.c (fact_state c.text.reader) (fact_state c.step.new.self) c.text.invariant c.in-Some.ensures.steps.0
    (ap length c.as_str-left.ensures) (went c.in_ok-step.field-0 _ _ c.in_ok-step.ensures f)

pub returns : goal.returns
returns c = ended_line c.args.line.now (fact_state c.text.reader) c.take.result
    (at_end (fact_step false) waiting c.args.line.now (chars_rest c.text.rest) c.text.left (fact_state c.text.reader) c.text.invariant c.in_default.ensures.steps.0.0) c.take.ensures.taken
