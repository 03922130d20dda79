use Rattle.std.proofs.Common.{◌≡◌, ◌++◌, map, drop, string_bytes}
use Rattle.feats_tree.specs.trees.Lines.{branch_lines, lines_from}
use Rattle.feats_tree.specs.trees.Titles.{title_text}
use Rattle.feats_tree.proofs.LevelLemmas.{FitLevels}
use Rattle.feats_tree.proofs.trees.lines.branch_lines.Given as goal

abbrev pub invariant-loop-branch : goal.invariant-loop-branch
invariant-loop-branch l = record {
  text : string_bytes l.text ++ lines_from (map title_text l.titles) l.first (drop l.branch-index l.branches) ≡ branch_lines (map title_text l.titles) l.branches;
  fits : FitLevels l.levels.items (drop l.branch-index l.branches);
}
