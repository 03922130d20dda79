use Rattle.std.proofs.Common.{map, subst, sym}
use Rattle.feats_tree.specs.trees.Branches.{AreTrees}
use Rattle.feats_tree.specs.trees.Titles.{title_text}
use Rattle.feats_tree.proofs.PackagesShown.{tree_by}
use Rattle.feats_tree.proofs.packages.tree_texts.tree_text.Goals as goal

pub branches_text-requires : goal.branches_text-requires
branches_text-requires c = subst AreTrees (sym c.deref.ensures.value) c.in_ok-trees.ensures.branches.are_trees

pub returns : goal.returns
returns c =
    tree_by c.with_end.result c.args.form c.args.links.now c.args.roots.now c.args.limit (map title_text c.args.titles.now) c.in_ok-trees.trees.branches.items c.deref.result.now
    c.limit_of.result c.in_ok-text.text.items c.in_ok-trees.trees.is_cut c.limit_of.ensures c.in_ok-trees.ensures.branches c.deref.ensures.value c.in_ok-text.ensures c.in_ok-trees.ensures.cut c.with_end.ensures
