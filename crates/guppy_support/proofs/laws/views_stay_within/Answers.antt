use Rattle.guppy_support.proofs.LinkSteps.{members_below}
use Rattle.guppy_support.proofs.RootLemmas.{links_within}
use Rattle.guppy_support.proofs.WithinLemmas.{roots_below, cycles_below}
use Rattle.guppy_support.proofs.laws.views_stay_within.Goals as goal

pub returns : goal.returns
returns c = record { members = members_below; links = links_within; roots = roots_below; components = cycles_below }
