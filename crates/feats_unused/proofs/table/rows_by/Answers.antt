use Rattle.feats_lines.specs.parts.Views.{row_text}
use Rattle.feats_unused.specs.Lines.{row_of}
use Rattle.feats_unused.specs.Views.{shown_text}
use Rattle.feats_unused.proofs.Lists.{seen_more}
use Rattle.feats_unused.proofs.table.rows_by.Goals as goal

pub loop-one-preserved : goal.loop-one-preserved
loop-one-preserved c = λ names has.
    seen_more shown_text (row_of names) row_text c.args.shown.now c.loop-one.one-index c.one-item.result _ _ _ _ c.loop-one-test.true c.one-item.is (c.loop-one.invariant names has)
    c.in_ok-push.ensures.items (c.in_ok-row_of.ensures names has)
