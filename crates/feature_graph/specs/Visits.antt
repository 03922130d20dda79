-- Visitors of links, as they decide the offers of a walk.
use Rattle.std.specs.Prelude.{◌≡◌, ℕ, Bool, IsTrue, slice_get}
use Rattle.digraphs.specs.Bits.{has}
use Rattle.walk_engine.specs.declared.walks.Half.{Half}
use Rattle.feature_core.specs.Nodes.{nodes}
use Rattle.walk_engine.specs.Walks.{Content}
use Rattle.feature_core.specs.Offers.{content_of}
use Rattle.feature_graph.specs.Values.{Graph, Query}
use Rattle.feature_graph.specs.LinkValues.{Link, start_name}

-- the edges of the query's graph, in the query's direction
abbrev pub query_content : Query → Content
query_content q = content_of q.direction q.graph.built

-- the link that a visitor sees for an offer
abbrev pub offered : Graph → ℕ → Half → Link
offered g e h = record { graph = g; edge = e; half = h }

-- a visitor may be called for an offer if it may be called for the offer's link, in this query's context
abbrev pub showable : {V : Type 0} → (V → Query → Link → Type 0) → Query → V → ℕ → Half → Type 0
showable can q s e h = can s q (offered q.graph e h)

-- a visitor may decide an offer as it may decide the offer's link, in this query's context
abbrev pub shown : {V : Type 0} → (V → Query → Link → Bool → V → Type 0) → Query → V → ℕ → Half → Bool → V → Type 0
shown gives q s e h answer t = gives s q (offered q.graph e h) answer t

-- an offerer without a state, which answers each offer as the test says
abbrev pub answered : (ℕ → Half → Bool) → Unit {0} → ℕ → Half → Bool → Unit {0} → Type 0
answered A s e h answer t = answer ≡ A e h

-- the link starts, in the query's direction, at a feature with the name of an initial one
abbrev pub StartsFromInitial : Query → Link → Type 0
StartsFromInitial q l = (n : ℕ) × (slice_get (nodes q.graph.tables) n ≡ start_name q.direction l) × IsTrue (has q.initials n)
