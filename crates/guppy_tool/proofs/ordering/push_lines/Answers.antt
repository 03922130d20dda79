use Rattle.std.proofs.Common.{◌++◌, ◌∷◌, [], ◌∙◌, Some, sym, ap}
use Rattle.std.proofs.lemmas.Option.{slice_get-get_or}
use Rattle.std.specs.String.{string_bytes}
use Rattle.feature_labels.specs.Names.{id_of, id_text}
use Rattle.guppy_tool.proofs.AnswerLemmas.{texts_so_far, texts_after}
use Rattle.guppy_tool.proofs.ordering.push_lines.Goals as goal

pub loop-id-preserved : goal.loop-id-preserved
loop-id-preserved c =
    texts_so_far (λ id. id_text (id_of id) ++ 10 ∷ []) c.args.ids.now c.loop-id.id-index c.id-item.result
    (string_bytes c.loop-id.text) (string_bytes c.push_line.new.text) _
    (slice_get-get_or c.args.ids.now c.loop-id.id-index c.id-item.result c.loop-id-test.true ∙ ap Some (sym c.id-item.is)) c.loop-id.invariant c.in_ok-push_line.ensures

pub returns : goal.returns
returns c = texts_after id_of (λ id. id_text id ++ 10 ∷ []) c.args.ids.now c.loop-id.id-index (string_bytes c.loop-id.text) (string_bytes c.args.text.now) c.loop-id-test.false c.loop-id.invariant
