-- The numbers of named steps and offers.
use Rattle.std.specs.Prelude.{◌≡◌, List, [], ◌∷◌, Some, ℕ, IsTrue}
use Rattle.std.specs.Option.{option_map}
use Rattle.guppy_packages.specs.Rows.{Text}
use Rattle.guppy_packages.specs.declared.direction.DependencyDirection.TheVariants.{Forward}
use Rattle.feature_labels.specs.Names.{LabelName}
use Rattle.feature_labels.specs.declared.link_declarations.LinkDeclarations.{LinkDeclarations}
use Rattle.feature_links.specs.Facts.{EdgeFacts, link_at}
use Rattle.feature_core.specs.Offers.{content_of, IsOffer}
use Rattle.feature_core.specs.Ways.{asked}
use Rattle.walk_engine.specs.Walks.{has_half}
use Rattle.walk_engine.specs.declared.walks.Half.{Half}
use Rattle.walk_engine.specs.declared.walks.Step.{Step}
use Rattle.walk_engine.specs.declared.walks.StepReason.{StepReason}
use Rattle.walk_engine.specs.declared.walks.StepReason.TheVariants.{Initial, Edge, Offer}
use Rattle.feature_graph.specs.Told.{ReasonName, offer_told, reason_told, step_told}
use Rattle.feature_graph.specs.Values.{Graph}

-- the offer of the reason, if any, is an offer of the graph
abbrev pub IsPossible : Graph → StepReason → Type 0
IsPossible g Initial = Unit {0}
IsPossible g (Edge e) = Unit {0}
IsPossible g (Offer e h) = IsOffer (content_of Forward g.built) e h

-- the offer is one of the graph, and has this name
pub record IsNumberedOffer (g : Graph) (told : (Text × LabelName) × (Text × LabelName) × LinkDeclarations) (e : ℕ) (h : Half) : Type 0 where
  pub offer : IsOffer (content_of Forward g.built) e h
  pub told_so : offer_told g (e, h) ≡ Some told

-- the reason is possible, and has this name
pub record IsNumberedReason (g : Graph) (told : ReasonName) (reason : StepReason) : Type 0 where
  pub possible : IsPossible g reason
  pub told_so : reason_told g reason ≡ Some told

-- the step has a possible reason, and this name
pub record IsNumberedStep (g : Graph) (told : (Text × LabelName) × ReasonName) (step : Step) : Type 0 where
  pub possible : IsPossible g step.reason
  pub told_so : step_told g step ≡ Some told

-- each of the steps has its name
abbrev pub AreNumbered : Graph → List ((Text × LabelName) × ReasonName) → List Step → Type 0
AreNumbered g [] [] = Unit {0}
AreNumbered g [] (step ∷ steps) = ⊥
AreNumbered g (t ∷ told) [] = ⊥
AreNumbered g (t ∷ told) (step ∷ steps) = IsNumberedStep g t step × AreNumbered g told steps

-- the half of the edge is offered, and covers these declarations
pub record IsOver (f : EdgeFacts) (declarations : LinkDeclarations) (h : Half) : Type 0 where
  pub offered : IsTrue (has_half (asked Forward f) h)
  pub over : option_map (λ facts. facts.declarations) (link_at f h) ≡ Some declarations
