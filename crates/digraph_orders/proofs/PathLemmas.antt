-- Paths are transitive, and components are equivalence classes.
use Rattle.std.proofs.Common.{ℕ, List}
use Rattle.digraphs.specs.declared.digraph.Edge.{Edge}
use Rattle.digraphs.specs.Paths.{HasEdge, Path, nowhere, onward, SameComponent, OnCycle}
use Rattle.std.proofs.Common.{◌≢◌, refl, sym}

pub join : {es : List Edge} {a b c : ℕ} → Path es a b → Path es b c → Path es a c
join nowhere q = q
join (onward e p) q = onward e (join p q)

pub one_edge : {es : List Edge} {a b : ℕ} → HasEdge es a b → Path es a b
one_edge e = onward e nowhere

pub same_self : {es : List Edge} (a : ℕ) → SameComponent es a a
same_self a = record { there = nowhere; back = nowhere }

pub same_turned : {es : List Edge} {a b : ℕ} → SameComponent es a b → SameComponent es b a
same_turned s = record { there = s.back; back = s.there }

pub same_joined : {es : List Edge} {a b c : ℕ} → SameComponent es a b → SameComponent es b c → SameComponent es a c
same_joined s t = record { there = join s.there t.there; back = join t.back s.back }

-- A path between different nodes has a first edge.
pub first_step : {es : List Edge} {a b : ℕ} → Path es a b → a ≢ b → (c : ℕ) × HasEdge es a c × Path es c b
first_step nowhere ne = absurd (ne refl)
first_step (onward {b = c} e p) ne = (c, e, p)

-- Two different nodes of one component are on a common cycle.
pub cycle_from_same : {es : List Edge} {a b : ℕ} → SameComponent es a b → a ≢ b → OnCycle es a b
cycle_from_same s ne =
    let there = first_step s.there ne in
    let back = first_step s.back (λ e. ne (sym e)) in
    record { first = there.0; first_edge = there.1; there = there.2; second = back.0; second_edge = back.1; back = back.2 }

pub same_from_cycle : {es : List Edge} {a b : ℕ} → OnCycle es a b → SameComponent es a b
same_from_cycle c = record { there = onward c.first_edge c.there; back = onward c.second_edge c.back }
