use Rattle.std.proofs.Common.{◌∙◌, ap, ◌++◌, append_assoc}
use Rattle.std.specs.Prelude.{codes, string_bytes}
use Rattle.feats_slim.specs.answers.Lines.{quoted}
use Rattle.feats_slim.proofs.Tokens.{on_ok}
use Rattle.feats_slim.proofs.answers.rows.push_feature.Goals as goal

pub returns : goal.returns
returns c =
    let name = quoted c.args.name.now in
    on_ok c.push_quoted.result c.push_quoted.ensures (λ last.
    last ∙ ap (λ z. z ++ name) c.in_ok-push_str.ensures.bytes ∙ append_assoc (string_bytes c.args.text.now) (codes " without feature ") name)
