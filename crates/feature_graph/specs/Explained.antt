-- Explanations whose steps are named, and complete ones.
use Rattle.std.specs.Prelude.{◌≡◌, ◌↔◌, ℕ, Bool, List, Some, IsTrue, length, map, slice_get}
use Rattle.digraphs.specs.Bits.{has}
use Rattle.guppy_packages.specs.Rows.{Text}
use Rattle.guppy_packages.specs.declared.direction.DependencyDirection.{DependencyDirection}
use Rattle.feature_labels.specs.Names.{LabelName}
use Rattle.feature_labels.specs.declared.link_declarations.LinkDeclarations.{LinkDeclarations}
use Rattle.feature_core.specs.Nodes.{nodes}
use Rattle.feature_core.specs.Offers.{content_of, IsOffer}
use Rattle.walk_engine.specs.declared.walks.Half.{Half}
use Rattle.walk_engine.specs.declared.walks.Step.{Step}
use Rattle.walk_engine.specs.Explanations.{IsExplanation, nodes_of}
use Rattle.walk_engine.specs.Laws.{every}
use Rattle.walk_engine.specs.Walks.{is_in}
use Rattle.walk_checks.specs.Exact.{is_refused, IsExact}
use Rattle.walk_checks.specs.Whys.{IsWhy}
use Rattle.feature_graph.specs.Names.{HoldsExactly}
use Rattle.feature_graph.specs.Told.{ReasonName, Explanation, offer_told, step_told}
use Rattle.feature_graph.specs.Values.{Graph}

-- the steps are an explanation, from some initial features and by some offers
abbrev pub IsBacked : Graph → DependencyDirection → List Step → Type 0
IsBacked g direction steps = (initials : List Bool) × (A : ℕ → Half → Bool) × (length initials ≡ length (nodes g.tables)) × IsExplanation (content_of direction g.built) (has initials) A steps

-- the steps list exactly the members
abbrev pub ListMembers : List Bool → List Step → Type 0
ListMembers members steps = (n : ℕ) → has members n ≡ is_in (nodes_of steps) n

-- the names of the steps
abbrev pub AreTold : Graph → List Step → List ((Text × LabelName) × ReasonName) → Type 0
AreTold g steps told = map (step_told g) steps ≡ map Some told

-- the names of the offers
abbrev pub OffersAreTold : Graph → List (ℕ × Half) → List ((Text × LabelName) × (Text × LabelName) × LinkDeclarations) → Type 0
OffersAreTold g offers told = map (offer_told g) offers ≡ map Some told

-- one of the entries names this offer
abbrev pub IsListed : Graph → List ((Text × LabelName) × (Text × LabelName) × LinkDeclarations) → ℕ → Half → Type 0
IsListed g entries e h = (k : ℕ) × (entry : (Text × LabelName) × (Text × LabelName) × LinkDeclarations) × (slice_get entries k ≡ Some entry) × (offer_told g (e, h) ≡ Some entry)

-- an offer of the graph is refused if an entry names it; the other entries are ignored
abbrev pub AreRefused : Graph → DependencyDirection → List ((Text × LabelName) × (Text × LabelName) × LinkDeclarations) → List (ℕ × Half) → Type 0
AreRefused g direction entries refused = (e : ℕ) (h : Half) → IsOffer (content_of direction g.built) e h → IsTrue (is_refused refused e h) ↔ IsListed g entries e h

-- the named steps explain their features, from the initial features `names`
pub record Explains (g : Graph) (direction : DependencyDirection) (names : List (Text × LabelName)) (told : List ((Text × LabelName) × ReasonName)) : Type 0 where
  pub initials : List Bool
  pub are_initials : HoldsExactly g.tables initials names
  pub steps : List Step
  pub are_steps : AreTold g steps told
  pub explanation : IsExplanation (content_of direction g.built) (has initials) every steps

-- The named steps explain their features by offers that no entry names, and list every feature that edges and those
-- offers lead to.
pub record ExplainsAll (g : Graph) (direction : DependencyDirection) (names : List (Text × LabelName)) (told : List ((Text × LabelName) × ReasonName)) (entries : List ((Text × LabelName) × (Text × LabelName) × LinkDeclarations)) : Type 0 where
  pub initials : List Bool
  pub are_initials : HoldsExactly g.tables initials names
  pub steps : List Step
  pub are_steps : AreTold g steps told
  pub refused : List (ℕ × Half)
  pub are_refused : AreRefused g direction entries refused
  pub exact : IsExact (content_of direction g.built) (has initials) refused steps

-- the named steps are those on which the node rests, among all steps of the explanation
pub record ExplainsOne (x : Explanation) (initials : List Bool) (A : ℕ → Half → Bool) (node : ℕ) (told : List ((Text × LabelName) × ReasonName)) : Type 0 where
  pub steps : List Step
  pub are_steps : AreTold x.graph steps told
  pub why : IsWhy (content_of x.direction x.graph.built) (has initials) A x.steps node steps

-- the node is a member, and the named steps are its reason chain, for all initial features and offers that the steps explain
pub record ExplainsMember (x : Explanation) (node : ℕ) (told : List ((Text × LabelName) × ReasonName)) : Type 0 where
  pub member : IsTrue (has x.members node)
  pub why : (initials : List Bool) (A : ℕ → Half → Bool) → length initials ≡ length (nodes x.graph.tables) → IsExplanation (content_of x.direction x.graph.built) (has initials) A x.steps → ExplainsOne x initials A node told

-- the steps and refused offers pass both checks, once they are named
pub record PassesChecks (g : Graph) (direction : DependencyDirection) (initials : List Bool) (steps : List Step) (refused : List (ℕ × Half)) : Type 0 where
  pub explains : (names : List (Text × LabelName)) (told : List ((Text × LabelName) × ReasonName)) → HoldsExactly g.tables initials names → AreTold g steps told → Explains g direction names told
  pub explains_all : (names : List (Text × LabelName)) (told : List ((Text × LabelName) × ReasonName)) (entries : List ((Text × LabelName) × (Text × LabelName) × LinkDeclarations))
      → HoldsExactly g.tables initials names → AreTold g steps told → OffersAreTold g refused entries → ExplainsAll g direction names told entries
