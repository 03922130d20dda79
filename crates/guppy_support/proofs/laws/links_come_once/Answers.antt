use Rattle.guppy_support.proofs.OnceLemmas.{links_come_once}
use Rattle.guppy_support.proofs.laws.links_come_once.Goals as goal

pub returns : goal.returns
returns c = links_come_once
