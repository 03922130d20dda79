use Rattle.std.proofs.Common.{◌∙◌, ap, sym}
use Rattle.feats_tree.specs.trees.Lines.{bar}
use Rattle.feats_tree.proofs.MarkLemmas.{bar-true, pushed}
use Rattle.feats_tree.proofs.trees.lines.push_bar.Goals as goal

pub returns-then-goes_on : goal.returns-then-goes_on
returns-then-goes_on c = pushed c.push_str.result _ _ _ (bar c.args.goes_on) c.push_str.ensures.bytes (sym bar-true ∙ ap bar (sym c.if-goes_on.true))
