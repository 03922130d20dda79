use Rattle.std.proofs.Common.{◌∙◌, ap, sym}
use Rattle.feats_tree.specs.trees.Lines.{tee}
use Rattle.feats_tree.proofs.MarkLemmas.{pushed, tee-false, tee-true}
use Rattle.feats_tree.proofs.trees.lines.push_tee.Goals as goal

pub returns-then-goes_on : goal.returns-then-goes_on
returns-then-goes_on c = pushed c.push_str.result _ _ _ (tee c.args.goes_on) c.push_str.ensures.bytes (sym tee-true ∙ ap tee (sym c.if-goes_on.true))

pub returns-else-goes_on : goal.returns-else-goes_on
returns-else-goes_on c = pushed c.push_str-else-goes_on.result _ _ _ (tee c.args.goes_on) c.push_str-else-goes_on.ensures.bytes (sym tee-false ∙ ap tee (sym c.if-goes_on.false))
