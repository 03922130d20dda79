-- Links between the features that are on in a plan.
use Rattle.std.specs.Prelude.{◌≡◌, ◌&&◌, ◌||◌, ℕ, List, Bool, true, false, Some, IsTrue, codes, not}
use Rattle.std.specs.List.{AllZip}
use Rattle.std.specs.Str.{bytes_eq}
use Rattle.guppy_packages.specs.declared.direction.DependencyDirection.TheVariants.{Forward}
use Rattle.digraphs.specs.Bits.{has, members}
use Rattle.feature_core.specs.Built.{Built, IsBuilt}
use Rattle.feature_core.specs.Offers.{content_of}
use Rattle.feature_labels.specs.Names.{LabelName}
use Rattle.feature_labels.specs.Names.LabelName.{base, named, optional}
use Rattle.cargo_plans.specs.plan_starts.PackageVisits.{PairVisit}
use Rattle.plan_whys.specs.Steps.{IsAt, SpotText}
use Rattle.walk_engine.specs.Walks.{Content, IsWay, Way}
use Rattle.walk_engine.specs.declared.walks.Ask.{Ask}
use Rattle.walk_engine.specs.declared.walks.Ask.TheVariants as asks
use Rattle.plan_whys.specs.links.Links.{ArePairsOf, index_of, indexes_of}

-- The nodes that are on, ascending.
abbrev pub nodes_on : PairVisit → List ℕ
nodes_on on = members on.visit.members

-- THE SPOTS that are on: those of these nodes, in their order.
abbrev pub AreSpotsOn : PairVisit → List SpotText → Type 0
AreSpotsOn on spots = AllZip (IsAt on) (nodes_on on) spots

-- Whether an edge is followed from a node that is on: a weak one by its required half, or by its optional half, which may wait for its
-- gate. `gate` is whether the gate is on.
abbrev pub is_followed : Ask → Bool → Bool
is_followed asks.Nobody gate = true
is_followed asks.Full gate = true
is_followed (asks.Weak required gated) gate = required || not gated || gate

-- Whether way `w` counts, where `M` are on.
abbrev pub counts : (ℕ → Bool) → Way → Bool
counts M w = M w.start && is_followed w.ask (M w.gate)

-- Spot `from` TURNS ON spot `to`, by their numbers: a way that counts leads from the node of the one to that of the other.
pub record TurnsOn (on : PairVisit) (c : Content) (from to : ℕ) : Type 0 where
  pub number : ℕ
  pub way : Way
  pub is_way : IsWay c number way
  pub counts_here : IsTrue (counts (has on.visit.members) way)
  pub leaves : index_of (nodes_on on) way.start ≡ Some from
  pub leads : index_of (nodes_on on) way.far ≡ Some to

-- THE LINKS between spots: exactly the pairs of which the first turns on the second.
pub record AreSpotLinks (on : PairVisit) (links : List (ℕ × ℕ)) : Type 0 where
  pub built : Built
  pub is_built : IsBuilt on.visit.tables built
  pub are_links : ArePairsOf (TurnsOn on (content_of Forward built)) links

-- Whether the label is that of a command feature: what the command line asks of a package.
abbrev pub is_command : LabelName → Bool
is_command base = false
is_command (named name) = bytes_eq name (codes "[command]")
is_command (optional name) = false

-- The numbers of the spots that are command features.
abbrev pub root_spots : List SpotText → List ℕ
root_spots spots = indexes_of (λ s. is_command s.label) spots
