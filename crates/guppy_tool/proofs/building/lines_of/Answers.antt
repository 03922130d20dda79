use Rattle.std.proofs.Common.{◌∙◌, Some, sym, ap}
use Rattle.std.proofs.lemmas.Option.{slice_get-get_or}
use Rattle.std.specs.String.{string_bytes}
use Rattle.feature_graph.specs.Told.{step_name}
use Rattle.guppy_tool.specs.Answers.{step_line}
use Rattle.guppy_tool.proofs.AnswerLemmas.{texts_so_far, texts_done}
use Rattle.guppy_tool.proofs.building.lines_of.Goals as goal

pub loop-step-preserved : goal.loop-step-preserved
loop-step-preserved c =
    texts_so_far (λ s. step_line (step_name s)) c.args.steps.now c.loop-step.step-index c.step-item.result
    (string_bytes c.loop-step.text) (string_bytes c.push_step.new.text) _
    (slice_get-get_or c.args.steps.now c.loop-step.step-index c.step-item.result c.loop-step-test.true ∙ ap Some (sym c.step-item.is)) c.loop-step.invariant c.in_ok-push_step.ensures

pub returns : goal.returns
returns c = ap (λ v. v.items) c.into_bytes.ensures.value ∙ texts_done step_name step_line c.args.steps.now c.loop-step.step-index (string_bytes c.loop-step.text) c.loop-step-test.false c.loop-step.invariant
