-- Steps and refused offers by the names of features.
use Rattle.std.specs.Prelude.{ℕ, Bool, List, Option, None, Some, slice_get, map}
use Rattle.std.specs.Option.{option_map, option_map_or}
use Rattle.guppy_packages.specs.Rows.{Text}
use Rattle.feature_labels.specs.Names.{LabelName, id_of}
use Rattle.feature_labels.specs.declared.feature_id.FeatureId.{FeatureId}
use Rattle.feature_labels.specs.declared.link_declarations.LinkDeclarations.{LinkDeclarations}
use Rattle.feature_core.specs.Nodes.{nodes}
use Rattle.walk_engine.specs.declared.walks.Half.{Half}
use Rattle.walk_engine.specs.declared.walks.Half.TheVariants.{Full}
use Rattle.walk_engine.specs.declared.walks.Step.{Step}
use Rattle.walk_engine.specs.declared.walks.StepReason.{StepReason}
use Rattle.walk_engine.specs.declared.walks.StepReason.TheVariants as number
use Rattle.guppy_packages.specs.declared.direction.DependencyDirection.{DependencyDirection}
use Rattle.feature_graph.specs.LinkValues.{from_name, to_name, facts_of}
use Rattle.feature_graph.specs.Values.{Graph}
use Rattle.feature_graph.specs.Visits.{offered}
use Rattle.feature_graph.specs.declared.explain.reason.Reason.{Reason}
use Rattle.feature_graph.specs.declared.explain.reason.Reason.TheVariants as reason

-- the reason for a feature: it is initial, or an edge or an offer leads to it, named by the two ends of the edge
pub data ReasonName : Type 0 where
  initial : ReasonName
  edge : Text × LabelName → Text × LabelName → ReasonName
  link : Text × LabelName → Text × LabelName → LinkDeclarations → ReasonName

-- the names of an edge's two ends
abbrev pub ends_told : Graph → ℕ → Option ((Text × LabelName) × (Text × LabelName))
ends_told g e = option_map_or (λ from. option_map (λ to. (from, to)) (to_name (offered g e Full))) (from_name (offered g e Full)) None

-- the names of an offer: the two ends of its edge, and the declarations that its link covers
abbrev pub offer_told : Graph → ℕ × Half → Option ((Text × LabelName) × (Text × LabelName) × LinkDeclarations)
offer_told g o = option_map_or (λ ends. option_map (λ facts. (ends.0, ends.1, facts.declarations)) (facts_of (offered g o.0 o.1))) (ends_told g o.0) None

abbrev pub reason_told : Graph → StepReason → Option ReasonName
reason_told g number.Initial = Some initial
reason_told g (number.Edge e) = option_map (λ ends. edge ends.0 ends.1) (ends_told g e)
reason_told g (number.Offer e h) = option_map (λ o. link o.0 o.1 o.2) (offer_told g (e, h))

-- the names of a step: its feature's name, and its reason with names
abbrev pub step_told : Graph → Step → Option ((Text × LabelName) × ReasonName)
step_told g step = option_map_or (λ name. option_map (λ why. (name, why)) (reason_told g step.reason)) (slice_get (nodes g.tables) step.node) None

-- the names of the steps
abbrev pub steps_told : Graph → List Step → List (Option ((Text × LabelName) × ReasonName))
steps_told g steps = map (step_told g) steps

-- a reason of the API, with names
abbrev pub reason_name : Reason → ReasonName
reason_name reason.Initial = initial
reason_name (reason.Edge from to) = edge (id_of from) (id_of to)
reason_name (reason.Link from to declarations) = link (id_of from) (id_of to) declarations

abbrev pub step_name : FeatureId × Reason → (Text × LabelName) × ReasonName
step_name s = (id_of s.0, reason_name s.1)

abbrev pub offer_name : FeatureId × FeatureId × LinkDeclarations → (Text × LabelName) × (Text × LabelName) × LinkDeclarations
offer_name o = (id_of o.0, id_of o.1, o.2)

-- a list of steps in a graph and a direction, the members that they list, and the refused offers
pub record Explanation : Type 0 where
  pub graph : Graph
  pub direction : DependencyDirection
  pub members : List Bool
  pub steps : List Step
  pub refused : List (ℕ × Half)
