use Rattle.std.proofs.Common.{◌∙◌, ap, map}
use Rattle.cargo_workspaces.specs.Views.{texts}
use Rattle.feats_diff.specs.texts.Lines.{words}
use Rattle.feats_diff.specs.texts.inner.Words.{word_text}
use Rattle.feats_diff.proofs.Cells.{plain}
use Rattle.feats_diff.proofs.Tokens.{ok_with}
use Rattle.feats_diff.proofs.texts.columns.features_cell.Goals as goal

pub returns : goal.returns
returns c =
    ok_with _ _ c.joined.result c.joined.ensures (λ text is. is ∙ ap (λ ws. words (map word_text ws)) c.deref.ensures.value
    ∙ ap words (plain c.in_ok-words.words.items c.push_names.new.words.items (texts c.args.features.now) c.in_ok-words.ensures.items c.in_ok-push_names.ensures))
