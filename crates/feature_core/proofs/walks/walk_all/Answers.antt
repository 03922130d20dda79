use Rattle.std.specs.Prelude.{IsTrue}
use Rattle.digraphs.specs.Bits.{has}
use Rattle.feature_core.proofs.ChoiceLemmas.{chosen_alike, all_alike}
use Rattle.feature_core.proofs.walks.walk_all.Goals as goal

pub returns-clause-reach : goal.returns-clause-reach
returns-clause-reach c t h n = chosen_alike t c.args.built.now c.args.which c.args.direction (has c.args.initials.now) n (IsTrue (has c.in_ok-set.set n)) h (c.in_ok-set.ensures.members n)

pub returns-clause-all : goal.returns-clause-all
returns-clause-all c all t h n = all_alike t c.args.built.now c.args.which c.args.direction (has c.args.initials.now) n (IsTrue (has c.in_ok-set.set n)) all h (c.in_ok-set.ensures.members n)
