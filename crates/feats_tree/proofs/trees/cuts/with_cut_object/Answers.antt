use Rattle.std.specs.Prelude.{codes}
use Rattle.feats_lines.specs.parts.Members.{number_member}
use Rattle.feats_tree.specs.trees.Cuts.{greatest_depth}
use Rattle.feats_tree.proofs.CutLemmas.{object_by}
use Rattle.feats_tree.proofs.trees.cuts.with_cut_object.Goals as goal

pub returns : goal.returns
returns c =
    object_by c.end_line.result c.args.text.items c.in_ok-writer.writer c.write_number.new.writer (number_member (codes "cut-at-depth") greatest_depth)
    c.in_ok-writer.ensures.before c.in_ok-writer.ensures.tokens c.in_ok-write_number.ensures c.end_line.ensures
