use Rattle.std.proofs.Common.{◌∙◌, Some, sym, ap}
use Rattle.std.proofs.lemmas.Option.{slice_get-get_or}
use Rattle.std.specs.String.{string_bytes}
use Rattle.feature_core.specs.Warnings.{warning_of}
use Rattle.guppy_tool.specs.Answers.{warning_line}
use Rattle.guppy_tool.proofs.AnswerLemmas.{texts_so_far, texts_done}
use Rattle.guppy_tool.proofs.package.lines_of.Goals as goal

pub loop-warning-preserved : goal.loop-warning-preserved
loop-warning-preserved c =
    texts_so_far (λ w. warning_line (warning_of w)) c.args.found.now c.loop-warning.warning-index c.warning-item.result
    (string_bytes c.loop-warning.text) (string_bytes c.push_warning.new.text) _
    (slice_get-get_or c.args.found.now c.loop-warning.warning-index c.warning-item.result c.loop-warning-test.true ∙ ap Some (sym c.warning-item.is)) c.loop-warning.invariant c.in_ok-push_warning.ensures

pub returns : goal.returns
returns c = ap (λ v. v.items) c.into_bytes.ensures.value ∙ texts_done warning_of warning_line c.args.found.now c.loop-warning.warning-index (string_bytes c.loop-warning.text) c.loop-warning-test.false c.loop-warning.invariant
