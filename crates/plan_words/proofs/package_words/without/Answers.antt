use Rattle.std.proofs.Common.{false}
use Rattle.std.proofs.lemmas.Str.Pattern.{starts_text}
use Rattle.plan_words.proofs.Texts.{without_front, without_other}
use Rattle.plan_words.proofs.package_words.without.Goals as goal

pub returns-in-Some : goal.returns-in-Some
returns-in-Some c =
    let cut = c.in-Some.ensures.cases in
    without_front c.args.front.now c.args.text.now c.in-Some.rest.now cut.0 cut.1.0 cut.1.1 cut.2

pub returns-in-None : goal.returns-in-None
returns-in-None c = without_other c.args.front.now c.args.text.now (starts_text false c.args.front.now c.args.text.now c.in-None.ensures.cases)
