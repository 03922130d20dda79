use Rattle.std.proofs.Common.{◌∙◌, ap, List, ℕ, ◌++◌, append_assoc, codes}
use Rattle.cargo_manifests.specs.EditViews.{without_text}
use Rattle.feats_slim.specs.answers.Lines.{without_words}
use Rattle.feats_slim.proofs.answers.rows.inherited_edit.Goals as goal

pub returns : goal.returns
returns c =
    let begin = codes "[workspace.dependencies]: " in
    let name = c.args.name.now in
    let without = without_words (without_text c.args.without) in
    let end = codes ", for all members that inherit it" in
    c.in_ok-push_str-2.ensures.bytes
    ∙ ap (λ (z : List ℕ). z ++ end) (c.in_ok-push_without.ensures ∙ ap (λ (z : List ℕ). z ++ without) (c.in_ok-push_str.ensures.bytes ∙ ap (λ (z : List ℕ). z ++ name) c.in_ok-text.ensures.ok))
    ∙ append_assoc (begin ++ name) without end ∙ append_assoc begin name (without ++ end)
