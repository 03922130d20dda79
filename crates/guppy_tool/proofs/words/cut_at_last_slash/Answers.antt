use Rattle.guppy_tool.proofs.WordLemmas.{cut_is}
use Rattle.guppy_tool.proofs.words.cut_at_last_slash.Goals as goal

pub returns : goal.returns
returns c = cut_is c.args.word.now c.rsplit_once.result c.rsplit_once.ensures.cases
