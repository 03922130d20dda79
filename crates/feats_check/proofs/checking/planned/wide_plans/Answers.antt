use Rattle.feats_check.proofs.checking.planned.wide_plans.Goals as goal

pub returns-clause-plans : goal.returns-clause-plans
returns-clause-plans c = record { all = c.in_ok-all.ensures.plan; widest = c.in_ok-widest.ensures.plan }
