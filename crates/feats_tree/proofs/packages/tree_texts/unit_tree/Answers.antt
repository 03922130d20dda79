use Rattle.std.proofs.Common.{◌∙◌, IfOk, List, ap, ap₂, map, subst}
use Rattle.std.specs.String.{string_bytes}
use Rattle.feats_tree.specs.trees.Titles.{TitleText, detail_text}
use Rattle.feats_tree.specs.packages.Titles.{titles_with}
use Rattle.feats_tree.specs.packages.Trees.{IsTreeText}
use Rattle.feats_tree.proofs.packages.tree_texts.unit_tree.Goals as goal

pub returns : goal.returns
returns c =
    subst (λ (ts : List TitleText). IfOk c.titled_text.result (λ text. IsTreeText c.args.form c.args.links.now c.args.roots.now c.args.limit ts text.items))
    (ap₂ titles_with (ap (map string_bytes) c.deref.ensures.value ∙ c.in_ok-titles.ensures) (ap (map detail_text) c.deref-2.ensures.value ∙ c.in_ok-details.ensures)) c.titled_text.ensures
