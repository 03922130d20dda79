-- Chosen edges, and the reach over them.
use Rattle.std.specs.Prelude.{ℕ, List, Bool, true, false, filter, IsTrue}
use Rattle.guppy_packages.specs.Tables.{Tables}
use Rattle.guppy_packages.specs.declared.direction.DependencyDirection.{DependencyDirection}
use Rattle.guppy_packages.specs.declared.direction.DependencyDirection.TheVariants.{Forward, Reverse}
use Rattle.feature_links.specs.declared.edge.EdgeChoice.{EdgeChoice}
use Rattle.feature_links.specs.declared.edge.EdgeChoice.TheVariants.{All, FeatureToBaseAndNamed}
use Rattle.feature_edges.specs.Candidates.{Edge, feature_to_base, named_feature, dep_colon, slash_full, slash_optional, slash_weak, section, IsEdge}
use Rattle.feature_links.specs.Facts.{EdgeFacts, base_edge, feature_edge, colon_edge, strong_edge, weak_edge, section_edge}
use Rattle.feature_edges.specs.Edges.{ends_of}
use Rattle.feature_edges.specs.Pairs.{ReachAlong}

-- Whether a built edge is chosen.
abbrev pub is_chosen : EdgeChoice → EdgeFacts → Bool
is_chosen All f = true
is_chosen FeatureToBaseAndNamed base_edge = true
is_chosen FeatureToBaseAndNamed feature_edge = true
is_chosen FeatureToBaseAndNamed (colon_edge l) = false
is_chosen FeatureToBaseAndNamed (strong_edge l) = false
is_chosen FeatureToBaseAndNamed (weak_edge l halves) = false
is_chosen FeatureToBaseAndNamed (section_edge l) = false

-- The two nodes of each chosen edge.
abbrev pub chosen_pairs : EdgeChoice → List (ℕ × ℕ × EdgeFacts) → List (ℕ × ℕ)
chosen_pairs which edges = ends_of (filter (λ e. is_chosen which e.2) edges)

-- Whether an edge of the tables is chosen.
abbrev pub is_chosen_edge : EdgeChoice → Edge → Bool
is_chosen_edge All e = true
is_chosen_edge FeatureToBaseAndNamed feature_to_base = true
is_chosen_edge FeatureToBaseAndNamed named_feature = true
is_chosen_edge FeatureToBaseAndNamed (dep_colon l) = false
is_chosen_edge FeatureToBaseAndNamed (slash_full l) = false
is_chosen_edge FeatureToBaseAndNamed (slash_optional l) = false
is_chosen_edge FeatureToBaseAndNamed (slash_weak k l) = false
is_chosen_edge FeatureToBaseAndNamed (section l) = false

-- The edge of the pair is chosen.
abbrev pub ChosenEdge : Tables → EdgeChoice → ℕ → ℕ → Type 0
ChosenEdge t which u w = ∥ ((e : Edge) × IsEdge t u w e × IsTrue (is_chosen_edge which e)) ∥₁

-- A chosen edge leads from `u` to `w` in this direction.
abbrev pub ChosenLeads : Tables → EdgeChoice → DependencyDirection → ℕ → ℕ → Type 0
ChosenLeads t which Forward u w = ChosenEdge t which u w
ChosenLeads t which Reverse u w = ChosenEdge t which w u

-- The reach over the chosen edges.
abbrev pub ChosenReach : Tables → EdgeChoice → DependencyDirection → (ℕ → Bool) → ℕ → Type 0
ChosenReach t which direction initials w = ReachAlong (ChosenLeads t which direction) initials w
