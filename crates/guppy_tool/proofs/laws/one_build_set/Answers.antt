use Rattle.guppy_tool.proofs.OneBuildSet.{one_build_set}
use Rattle.guppy_tool.proofs.laws.one_build_set.Goals as goal

pub returns : goal.returns
returns c = one_build_set
