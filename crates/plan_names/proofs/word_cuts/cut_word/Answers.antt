use Rattle.std.proofs.Common.{arith}
use Rattle.plan_names.proofs.Cuts.{none_is, some_is}
use Rattle.plan_names.proofs.word_cuts.cut_word.Goals as goal

pub returns-in-Some : goal.returns-in-Some
returns-in-Some c =
    let cut = c.in-Some.ensures.cases in
    some_is c.args.word.now c.in-Some.front.now c.in-Some.name.now cut.0 cut.1 cut.2.0 cut.2.1 cut.3 cut.4 (omega (arith, cut.7))

pub returns-in-None : goal.returns-in-None
returns-in-None c = none_is c.args.word.now c.in-None.ensures.cases
