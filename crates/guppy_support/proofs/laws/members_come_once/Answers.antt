use Rattle.guppy_support.proofs.OnceLemmas.{members_come_once}
use Rattle.guppy_support.proofs.laws.members_come_once.Goals as goal

pub returns : goal.returns
returns c = members_come_once
