-- The links of a platform, by the truth of their specs.
use Rattle.std.specs.Prelude.{◌≡◌, ◌↔◌, ℕ, Bool, List, Some, IsTrue, Contains}
use Rattle.digraphs.specs.Bits.{has}
use Rattle.guppy_packages.specs.Platform.{Status, never_status, always_status, spec_status}
use Rattle.guppy_packages.specs.Rows.{Text}
use Rattle.guppy_packages.specs.declared.row.DependencyKind.{DependencyKind}
use Rattle.walk_engine.specs.declared.walks.Half.{Half}
use Rattle.walk_engine.specs.Explanations.{IsExplanation}
use Rattle.walk_engine.specs.Walks.{Least}
use Rattle.feature_links.specs.Links.{LinkFacts}
use Rattle.feature_graph.specs.LinkValues.{Link, facts_of, status_for}
use Rattle.feature_graph.specs.Told.{Explanation}
use Rattle.feature_graph.specs.Values.{Graph, Query}
use Rattle.feature_graph.specs.Visits.{offered, query_content}
use Rattle.platform_specs.specs.Expressions.{Target}
use Rattle.guppy_features.specs.graph_platforms.HeldSpecs.{Holds}

-- a status holds for a target: it is always, or has a spec that holds
abbrev pub HoldsFor : Target → Status → Type 0
HoldsFor target never_status = ⊥
HoldsFor target always_status = Unit {0}
HoldsFor target (spec_status specs) = (text : Text) × Contains specs text × Holds target text

-- THE LINKS OF A PLATFORM: those whose status for one of the kinds holds
abbrev pub IsLinkFor : List DependencyKind → Target → Link → Type 0
IsLinkFor kinds target l = (kind : DependencyKind) × (facts : LinkFacts) × Contains kinds kind × (facts_of l ≡ Some facts)
    × HoldsFor target (status_for kind facts)

-- the test is true exactly of the offers whose links are the platform's
abbrev pub AreOffersFor : List DependencyKind → Target → Graph → (ℕ → Half → Bool) → Type 0
AreOffersFor kinds target g accepted = (e : ℕ) (h : Half) → IsTrue (accepted e h) ↔ IsLinkFor kinds target (offered g e h)

-- the members are the least set for the platform's links, and the steps explain them
pub record IsOnFor (kinds : List DependencyKind) (target : Target) (q : Query) (x : Explanation) : Type 0 where
  pub accepted : ℕ → Half → Bool
  pub offers : AreOffersFor kinds target q.graph accepted
  pub least : (n : ℕ) → IsTrue (has x.members n) ↔ Least (query_content q) (has q.initials) accepted n
  pub explanation : IsExplanation (query_content q) (has q.initials) accepted x.steps
