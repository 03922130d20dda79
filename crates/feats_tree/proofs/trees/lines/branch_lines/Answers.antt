use Rattle.std.proofs.Common.{map}
use Rattle.feats_tree.specs.trees.Titles.{title_text}
use Rattle.feats_tree.proofs.LevelLemmas.{fits_more, lines_more}
use Rattle.feats_tree.proofs.trees.lines.branch_lines.Goals as goal

pub loop-branch-preserved : goal.loop-branch-preserved
loop-branch-preserved c = record {
  text = lines_more (map title_text c.args.titles.now) c.args.branches.now c.loop-branch.branch-index _ c.loop-branch.levels.items c.loop-branch.first _ _ _
      c.requires c.loop-branch-test.true c.loop-branch.invariant.fits c.loop-branch.invariant.text c.in_ok-push_line.ensures.text;
  fits = fits_more c.args.branches.now c.loop-branch.branch-index _ c.loop-branch.levels.items _ c.requires c.loop-branch-test.true c.loop-branch.invariant.fits c.in_ok-push_line.ensures.levels;
}
