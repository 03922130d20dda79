use Rattle.std.proofs.Common.{◌≡◌, true, subst, sym}
use Rattle.std.proofs.lemmas.Result.{IfOk-weaker}
use Rattle.shown_texts.specs.Plain.{is_plain}
use Rattle.shown_texts.proofs.PlainLemmas.{json_plain}
use Rattle.shown_texts.proofs.shown.shown_json.Goals as goal

pub returns-clause-plain : goal.returns-clause-plain
returns-clause-plain c = IfOk-weaker c.replaced.result _ _ (λ shown h. subst (λ t. is_plain t ≡ true) (sym h) (json_plain c.args.json.now)) c.replaced.ensures
