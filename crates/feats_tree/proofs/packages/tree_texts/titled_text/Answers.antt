use Rattle.std.proofs.Common.{◌∙◌, IfOk, List, ap, map, subst}
use Rattle.feats_tree.specs.trees.Titles.{TitleText, title_text}
use Rattle.feats_tree.specs.packages.Trees.{IsTreeText}
use Rattle.feats_tree.proofs.packages.tree_texts.titled_text.Goals as goal

pub returns : goal.returns
returns c =
    subst (λ (ts : List TitleText). IfOk c.tree_text.result (λ text. IsTreeText c.args.form c.args.links.now c.args.roots.now c.args.limit ts text.items))
    (ap (map title_text) c.deref.ensures.value ∙ c.in_ok-titles.ensures) c.tree_text.ensures
