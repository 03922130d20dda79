use Rattle.walk_engine.proofs.Runs.{agrees_along}
use Rattle.walk_engine.proofs.laws.agrees_by_answer.Goals as goal

pub returns-clause-agrees : goal.returns-clause-agrees
returns-clause-agrees g c A s t run answers along = agrees_along g.O.Offerer.gives A s answers run t along

pub returns-clause-least : goal.returns-clause-least
returns-clause-least g c A s t con I M answers walk = walk.least A (agrees_along g.O.Offerer.gives A s answers walk.run t walk.calls)
