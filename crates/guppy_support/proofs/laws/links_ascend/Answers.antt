use Rattle.guppy_support.proofs.TieLemmas.{links_ascend}
use Rattle.guppy_support.proofs.laws.links_ascend.Goals as goal

pub returns : goal.returns
returns c = links_ascend
