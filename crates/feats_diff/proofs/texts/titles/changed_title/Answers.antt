use Rattle.std.proofs.Common.{◌∙◌, ap, cond, sym}
use Rattle.cargo_workspaces.specs.Views.{package_text}
use Rattle.feats_diff.specs.texts.Titles.{moved_title}
use Rattle.feats_diff.specs.texts.inner.Names.{names_text}
use Rattle.feats_diff.proofs.Tokens.{ok_with}
use Rattle.feats_lines.specs.Lines.{label_of}
use Rattle.feats_diff.proofs.texts.titles.changed_title.Goals as goal

pub returns-then-is_same : goal.returns-then-is_same
returns-then-is_same c =
    let names = (names_text c.args.repeated.now).new in
    let old = package_text c.args.old.now in
    let new = package_text c.args.new.now in
    ok_with _ _ c.label_of.result (c.label_of.ensures names c.requires.1) (λ title is. is ∙ ap (λ b. cond b (label_of names new) (moved_title old new)) (sym (sym c.is_same.ensures ∙ c.if-is_same.true)))
