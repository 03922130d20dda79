use Rattle.plan_starts.proofs.Unique.{alike}
use Rattle.plan_starts.proofs.step_visits.laws.one_visit.Goals as goal

pub returns : goal.returns
returns c = alike
