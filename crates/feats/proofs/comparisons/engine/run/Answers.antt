use Rattle.std.proofs.Common.{◌∙◌, ap, subst}
use Rattle.std.proofs.lemmas.Result.{IfOk-weaker}
use Rattle.feats.specs.comparisons.Comparisons.{IsShown}
use Rattle.feats.specs.comparisons.Sides.{SideText, side}
use Rattle.feats.specs.comparisons.SideView.{inputs_of, side_text}
use Rattle.feats.proofs.Related.{related}
use Rattle.feats.proofs.comparisons.engine.run.Goals as goal

pub returns-clause-ok : goal.returns-clause-ok
returns-clause-ok g c =
    let old = inputs_of c.args.old in
    let new = inputs_of c.args.new in
    let old_items = c.in_ok-old_bytes.old_bytes.items in
    let new_items = c.in_ok-new_bytes.new_bytes.items in
    IfOk-weaker c.write_comparison.result _ _ (λ ended w. record {
      text = w.text;
      is_shown = related old new (g.R.ByteInput.left c.args.old_reader.now) (g.S.ByteInput.left c.args.new_reader.now) old_items new_items
          (λ o n. IsShown o n (record { content = w.text; is_negative = ended.is_negative })) c.in_ok-old_bytes.ensures.bytes c.in_ok-new_bytes.ensures.bytes
          (subst (λ (o : SideText). IsShown o (side new new_items) (record { content = w.text; is_negative = ended.is_negative })) (c.with_document.ensures ∙ ap (side old) c.deref.ensures.value)
          (subst (λ (n : SideText). IsShown (side_text c.with_document.result) n (record { content = w.text; is_negative = ended.is_negative })) (c.with_document-2.ensures ∙ ap (side new) c.deref-2.ensures.value) w.is_shown));
      written = w.written;
    }) c.write_comparison.ensures.ok
