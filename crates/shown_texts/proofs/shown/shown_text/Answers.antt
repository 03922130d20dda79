use Rattle.std.proofs.Common.{◌≡◌, true, subst, sym}
use Rattle.std.proofs.lemmas.Result.{IfOk-weaker}
use Rattle.shown_texts.specs.Plain.{is_plain}
use Rattle.shown_texts.proofs.PlainLemmas.{text_plain}
use Rattle.shown_texts.proofs.shown.shown_text.Goals as goal

pub returns-clause-plain : goal.returns-clause-plain
returns-clause-plain c = IfOk-weaker c.replaced.result _ _ (λ shown h. subst (λ t. is_plain t ≡ true) (sym h) (text_plain c.args.text.now)) c.replaced.ensures
