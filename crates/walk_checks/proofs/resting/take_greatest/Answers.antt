use Rattle.walk_checks.proofs.WaitLemmas.{pops_greatest, pops_none}
use Rattle.walk_checks.proofs.resting.take_greatest.Goals as goal

pub returns-clause-greatest : goal.returns-clause-greatest
returns-clause-greatest c = pops_greatest c.args.waiting.now c.pop_last.new.self c.pop_last.result c.pop_last.ensures.member c.pop_last.ensures.greatest c.pop_last.ensures.updates

pub returns-clause-none : goal.returns-clause-none
returns-clause-none c = pops_none c.args.waiting.now c.pop_last.result c.pop_last.ensures.variant
