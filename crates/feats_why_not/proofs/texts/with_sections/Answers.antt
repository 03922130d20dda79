use Rattle.std.proofs.Common.{◌∙◌, ap}
use Rattle.std.proofs.lemmas.Result.{IfOk-weaker}
use Rattle.feats_why_not.specs.inner.Lists.{joined, texts_of}
use Rattle.feats_why_not.proofs.texts.with_sections.Goals as goal

pub returns : goal.returns
returns c =
    IfOk-weaker c.joined.result _ _ (λ longer is. (
      texts_of c.in_ok-sections.sections.items,
      c.in_ok-sections.ensures,
      is ∙ ap (λ ss. joined (texts_of c.args.texts.now) (texts_of ss)) c.deref.ensures.value,
    )) c.joined.ensures
