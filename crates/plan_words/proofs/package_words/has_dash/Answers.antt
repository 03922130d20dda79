use Rattle.std.proofs.Common.{lit<}
use Rattle.std.proofs.lemmas.Str.Pattern.{contains_char}
use Rattle.plan_words.proofs.Texts.{contains_is}
use Rattle.plan_words.proofs.package_words.has_dash.Goals as goal

pub returns : goal.returns
returns c = contains_is 45 c.args.version.now c.contains.result (contains_char 45 c.args.version.now c.contains.result c.contains.ensures.cases (lit< tt))
