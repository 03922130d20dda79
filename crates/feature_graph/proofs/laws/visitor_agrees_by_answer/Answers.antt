use Rattle.feature_graph.specs.Visits.{shown}
use Rattle.feature_graph.proofs.Visits.{agrees_along}
use Rattle.feature_graph.proofs.laws.visitor_agrees_by_answer.Goals as goal

pub returns-clause-agrees : goal.returns-clause-agrees
returns-clause-agrees g c q A s t run answers along = agrees_along (shown g.V.FeatureLinkVisitor.visit_gives q) A s answers run t along

pub returns-clause-least : goal.returns-clause-least
returns-clause-least g c q A s t M answers walk = walk.least A (agrees_along (shown g.V.FeatureLinkVisitor.visit_gives q) A s answers walk.run t walk.calls)
