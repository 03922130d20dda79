use Rattle.std.proofs.Common.{refl}
use Rattle.walk_engine.proofs.walks.walk_explained.Goals as goal

pub returns-clause-walk : goal.returns-clause-walk
returns-clause-walk g c = c.in_ok-found.ensures.explained refl
