use Rattle.std.proofs.Common.{lit<}
use Rattle.std.proofs.lemmas.Str.Pattern.{contains_char}
use Rattle.plan_names.proofs.Cuts.{contains_is}
use Rattle.plan_names.proofs.matches.has_star.Goals as goal

pub returns : goal.returns
returns c = contains_is 42 c.args.word.now c.contains.result (contains_char 42 c.args.word.now c.contains.result c.contains.ensures.cases (lit< tt))
