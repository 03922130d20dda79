use Rattle.std.proofs.Common.{◌≡◌, ◌≤◌, true, false, refl, ap, length, inl, inr, arith}
use Rattle.std.specs.Str.Iter.{chars_rest}
use Rattle.platform_specs.specs.inner.FactReading.{fact_state}
use Rattle.platform_specs.specs.inner.Reading.{read_step, at_first, reading, place_at}
use Rattle.platform_specs.specs.inner.Positions.{Stopped, ReadAll}
use Rattle.platform_specs.proofs.Runs.{went, stuck}
use Rattle.platform_specs.proofs.Places.{at_start, at_next, at_stop, at_end, stopped_within}
use Rattle.platform_specs.proofs.SpecTexts.{spelled_by, place_finished}
use Rattle.platform_specs.proofs.expression_text.read_parts.Goals as goal

pub text-init : goal.text-init
text-init c = at_start read_step at_first c.args.text.now _ _ _ c.utf8.text c.chars-rest.ensures.rest refl c.new-reader.ensures

pub returns-then-not-branch-clause-unread : goal.returns-then-not-branch-clause-unread
returns-then-not-branch-clause-unread c =
    let f : c.in_ok-step.field-0 ≡ false = cc in
    let s : Stopped read_step at_first c.args.text.now c.text.left =
    at_stop read_step at_first c.args.text.now (chars_rest c.text.rest) (chars_rest c.next.new.self) c.text.left c.in-Some.c (reading c.text.reader) c.text.invariant c.in-Some.ensures.steps.0
    (stuck c.in_ok-step.field-0 _ _ c.in_ok-step.ensures f) in
    (stopped_within read_step at_first c.args.text.now c.text.left c.utf8.text s, inl s)

pub text-preserved : goal.text-preserved
text-preserved c =
    let f : c.in_ok-step.field-0 ≡ true = cc in
    at_next read_step at_first c.args.text.now (chars_rest c.text.rest) (chars_rest c.next.new.self) c.text.left (length c.as_str-left.result.now) c.in-Some.c (reading c.text.reader) (reading c.step.new.self) c.text.invariant c.in-Some.ensures.steps.0
    (ap length c.as_str-left.ensures) (went c.in_ok-step.field-0 _ _ c.in_ok-step.ensures f)

pub returns-in-Finished-clause-found : goal.returns-in-Finished-clause-found
returns-in-Finished-clause-found c =
    let r : ReadAll read_step at_first c.args.text.now (reading c.text.reader) = at_end read_step at_first c.args.text.now (chars_rest c.text.rest) c.text.left (reading c.text.reader) c.text.invariant c.in_default.ensures.steps.0.0 in
    spelled_by c.args.text.now (reading c.text.reader) r.reads (ap (λ s. place_at s (fact_state c.text.reader.fact)) c.in-Finished.is)

pub returns-in_default-stage : goal.returns-in_default-stage
returns-in_default-stage c =
    let r : ReadAll read_step at_first c.args.text.now (reading c.text.reader) = at_end read_step at_first c.args.text.now (chars_rest c.text.rest) c.text.left (reading c.text.reader) c.text.invariant c.in_default.ensures.steps.0.0 in
    let z : 0 ≤ length c.args.text.now = omega arith in
    record {
      found = tt;
      unread = (
        z,
        inr (
          refl,
          record {
            state = reading c.text.reader;
            reads = r.reads;
            open_yet = λ e. c.in_default-stage.not-Finished (place_finished c.text.reader.stage (fact_state c.text.reader.fact) e);
          },
        ),
      );
    }
