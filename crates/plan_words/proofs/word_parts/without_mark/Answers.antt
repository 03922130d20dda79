use Rattle.std.proofs.Common.{lit<, None}
use Rattle.std.proofs.lemmas.Str.Pattern.{strip_suffix_char}
use Rattle.plan_words.proofs.Texts.{unmarked}
use Rattle.plan_words.proofs.word_parts.without_mark.Goals as goal

pub returns-in-None : goal.returns-in-None
returns-in-None c = unmarked c.args.name.now (strip_suffix_char 63 c.args.name.now None c.in-None.ensures.cases (lit< tt))
