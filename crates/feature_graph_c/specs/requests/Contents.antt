-- The contents of answers over a feature graph.
use Rattle.std.specs.Prelude.{◌≡◌, ◌↔◌, ℕ, List, ◌++◌, Bool, IsTrue, length}
use Rattle.feature_graph_c.specs.binary.Records.{number, flag, list}
use Rattle.digraphs.specs.Bits.{has, members}
use Rattle.digraph_orders.specs.Sequences.{Sequence, IsOrderOf}
use Rattle.guppy_support.specs.Views.{in_order, links_in_order, roots_in_order}
use Rattle.guppy_support.specs.Cycles.{cyclic_components, nodes_of}
use Rattle.walk_engine.specs.declared.walks.Half.{Half}
use Rattle.walk_engine.specs.declared.walks.Half.TheVariants.{Full, Required, Optional}
use Rattle.walk_engine.specs.declared.walks.Step.{Step}
use Rattle.walk_engine.specs.declared.walks.StepReason.{StepReason}
use Rattle.walk_engine.specs.declared.walks.StepReason.TheVariants.{Initial, Edge, Offer}
use Rattle.walk_engine.specs.Walks.{is_in}
use Rattle.walk_engine.specs.Explanations.{IsExplainedWalk}
use Rattle.walk_checks.specs.Exact.{IsExact}
use Rattle.guppy_packages.specs.Tables.{Tables}
use Rattle.guppy_packages.specs.PackageSets.{reading_of}
use Rattle.guppy_packages.specs.declared.direction.DependencyDirection.{DependencyDirection}
use Rattle.feature_core.specs.Built.{Built, digraph_of}
use Rattle.feature_core.specs.Offers.{content_of}
use Rattle.feature_core.specs.Pairs.{Reach}
use Rattle.feature_graph_c.specs.requests.Requests.{WalkRequest, CheckRequest, accepts}

-- The set of the nodes in a list, as a test of each of `count` nodes.
pub record IsSetOf (count : ℕ) (nodes : List ℕ) (set : List Bool) : Type 0 where
  pub long : length set ≡ count
  pub exact : (n : ℕ) → has set n ≡ is_in nodes n

abbrev pub half_number : Half → ℕ
half_number Full = 0
half_number Required = 1
half_number Optional = 2

abbrev pub reason_number : StepReason → ℕ
reason_number Initial = 0
reason_number (Edge e) = 1
reason_number (Offer e Full) = 2
reason_number (Offer e Required) = 3
reason_number (Offer e Optional) = 4

-- The edge of a reason, or 0.
abbrev pub reason_edge : StepReason → ℕ
reason_edge Initial = 0
reason_edge (Edge e) = e
reason_edge (Offer e h) = e

-- A step: its node, and its reason.
abbrev pub step_record : Step → List ℕ
step_record s = number s.node ++ number (reason_number s.reason) ++ number (reason_edge s.reason)

-- An offer: its edge and its half.
abbrev pub offer_record : ℕ × Half → List ℕ
offer_record o = number o.0 ++ number (half_number o.1)

-- A walk that answers each offer by the request: a step for each member, and the refused offers.
pub record Walked (b : Built) (q : WalkRequest) (content : List ℕ) : Type 0 where
  pub initials : List Bool
  pub is_set : IsSetOf (length b.packages) q.initials initials
  pub members : List Bool
  pub steps : List Step
  pub refused : List (ℕ × Half)
  pub walk : IsExplainedWalk {O = Unit {0}} (content_of q.direction b) (has initials) (λ s e h answer t. answer ≡ accepts q.choice e h) tt tt (has members) steps refused
  pub bytes : content ≡ list step_record steps ++ list offer_record refused

-- The nodes that the initial nodes reach over all edges, ascending.
pub record Reached (t : Tables) (b : Built) (q : DependencyDirection × List ℕ) (content : List ℕ) : Type 0 where
  pub initials : List Bool
  pub is_set : IsSetOf (length b.packages) q.1 initials
  pub set : List Bool
  pub exact : (n : ℕ) → IsTrue (has set n) ↔ Reach t q.0 (has initials) n
  pub long : length set ≡ length b.packages
  pub bytes : content ≡ list number (members set)

-- A view of some nodes, in the order of the graph.
pub record Viewed (b : Built) (view : Sequence → List Bool → List ℕ) (q : DependencyDirection × List ℕ) (content : List ℕ) : Type 0 where
  pub set : List Bool
  pub is_set : IsSetOf (length b.packages) q.1 set
  pub order : Sequence
  pub is_order : IsOrderOf (digraph_of b) order
  pub bytes : content ≡ list number (view order set)

-- The nodes, in order.
abbrev pub Ordered : Built → DependencyDirection × List ℕ → List ℕ → Type 0
Ordered b q content = Viewed b (λ o set. in_order (reading_of q.0) o.list set) q content

-- The nodes that are roots among them, in order.
abbrev pub Roots : Built → DependencyDirection × List ℕ → List ℕ → Type 0
Roots b q content = Viewed b (λ o set. roots_in_order (reading_of q.0) (digraph_of b).edges o set) q content

-- The edges between the nodes, in order.
abbrev pub Linked : Built → DependencyDirection × List ℕ → List ℕ → Type 0
Linked b q content = Viewed b (λ o set. links_in_order (reading_of q.0) (digraph_of b).edges o.list set) q content

-- The nodes of each component that has a cycle, the last component first.
pub record Cyclic (b : Built) (content : List ℕ) : Type 0 where
  pub order : Sequence
  pub is_order : IsOrderOf (digraph_of b) order
  pub bytes : content ≡ list (λ c. list number (nodes_of order c)) (cyclic_components (digraph_of b).edges order)

-- Whether the steps are an exact explanation.
pub record Checked (b : Built) (q : CheckRequest) (content : List ℕ) : Type 0 where
  pub initials : List Bool
  pub is_set : IsSetOf (length b.packages) q.initials initials
  pub answer : Bool
  pub told : IsTrue answer ↔ IsExact (content_of q.direction b) (has initials) q.refused q.steps
  pub bytes : content ≡ flag answer
