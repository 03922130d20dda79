use Rattle.std.proofs.Common.{lit<, None}
use Rattle.std.proofs.lemmas.Str.Pattern.{strip_suffix_char}
use Rattle.feats.proofs.WhyLists.{unfed}
use Rattle.feats.proofs.comparisons.differences.whys.without_feed.Goals as goal

pub returns-in-None : goal.returns-in-None
returns-in-None c = unfed c.args.line.now (strip_suffix_char 10 c.args.line.now None c.in-None.ensures.cases (lit< tt))
