use Rattle.std.proofs.Common.{lit<, false}
use Rattle.std.proofs.lemmas.Str.Pattern.{starts_text}
use Rattle.plan_words.proofs.Texts.{begins_otherwise, begins_with}
use Rattle.plan_words.proofs.package_words.begins_numbers.Goals as goal

pub returns-in-Some : goal.returns-in-Some
returns-in-Some c =
    let cut = c.in-Some.ensures.cases in
    begins_with c.args.word.now c.args.version.now c.in-Some.rest.now cut.0 c.starts_with.result cut.1.0 cut.1.1 cut.2 (c.starts_with.ensures.byte (lit< tt) (lit< tt) (λ w o h. h))

pub returns-in-None : goal.returns-in-None
returns-in-None c = begins_otherwise c.args.word.now c.args.version.now (starts_text false c.args.word.now c.args.version.now c.in-None.ensures.cases)
