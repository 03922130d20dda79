-- Walks over edges. A conditional edge is offered before it is followed.
use Rattle.std.specs.Prelude.{◌≡◌, ℕ, suc, if◌then◌else◌, Bool, true, false, List, [], ◌∷◌, Option, Some, None, slice_get, IsTrue, IsFalse, ◌&&◌, ◌||◌, ◌==◌, ◌+◌, ◌*◌, ◌<◌, ◌≤◌, ◌↔◌, count_by}
use Rattle.digraphs.specs.Bits.{has}
use Rattle.walk_engine.specs.declared.walks.Half.{Half}
use Rattle.walk_engine.specs.declared.walks.Half.TheVariants.{Full, Required, Optional}
use Rattle.walk_engine.specs.declared.walks.Ask.{Ask}
use Rattle.walk_engine.specs.declared.walks.Ask.TheVariants as asks
use Rattle.walk_engine.specs.declared.walks.Taken.{Taken}

-- A way: an edge as one direction follows it. Its gate matters only if the ask is gated.
pub record Way : Type 0 where
  pub start : ℕ
  pub far : ℕ
  pub ask : Ask
  pub gate : ℕ

-- The edges that a walk may follow, by number.
pub record Content : Type 0 where
  pub nodes : ℕ
  pub ways : List Way

abbrev pub IsWay : Content → ℕ → Way → Type 0
IsWay c e w = slice_get c.ways e ≡ Some w

-- One call of an offerer, with its answer.
pub record Call : Type 0 where
  pub edge : ℕ
  pub half : Half
  pub answer : Bool

-- Whether the half is offered for an edge with this ask.
abbrev pub has_half : Ask → Half → Bool
has_half asks.Nobody h = false
has_half asks.Full Full = true
has_half asks.Full Required = false
has_half asks.Full Optional = false
has_half (asks.Weak required gated) Full = false
has_half (asks.Weak required gated) Required = required
has_half (asks.Weak required gated) Optional = true

-- Whether the half waits for the edge's gate.
abbrev pub has_gate : Ask → Half → Bool
has_gate asks.Nobody h = false
has_gate asks.Full h = false
has_gate (asks.Weak required gated) Full = false
has_gate (asks.Weak required gated) Required = false
has_gate (asks.Weak required gated) Optional = gated

-- Whether the required half must be offered before this one.
abbrev pub has_turn : Ask → Half → Bool
has_turn ask Full = false
has_turn ask Required = false
has_turn ask Optional = has_half ask Required

abbrev pub is_half : Half → Half → Bool
is_half Full Full = true
is_half Full Required = false
is_half Full Optional = false
is_half Required Full = false
is_half Required Required = true
is_half Required Optional = false
is_half Optional Full = false
is_half Optional Required = false
is_half Optional Optional = true

-- Whether the call is about this offer.
abbrev pub is_of : Call → ℕ → Half → Bool
is_of call e h = (call.edge == e) && is_half call.half h

-- Whether the offer was made, and whether it was accepted. A run is the list of its calls, the newest first.
abbrev pub was_made : List Call → ℕ → Half → Bool
was_made [] e h = false
was_made (call ∷ before) e h = is_of call e h || was_made before e h

abbrev pub was_accepted : List Call → ℕ → Half → Bool
was_accepted [] e h = false
was_accepted (call ∷ before) e h = (is_of call e h && call.answer) || was_accepted before e h

-- Whether a way is open if the offers in `A` are accepted.
abbrev pub is_open : (ℕ → Half → Bool) → ℕ → Ask → Bool
is_open A e asks.Nobody = true
is_open A e asks.Full = A e Full
is_open A e (asks.Weak required gated) = (required && A e Required) || A e Optional

-- A path over open ways, given by its edge numbers.
abbrev pub Path : Content → (ℕ → Half → Bool) → ℕ → List ℕ → ℕ → Type 0
Path c A a [] b = a ≡ b
Path c A a (e ∷ es) b = (w : Way) × IsWay c e w × (w.start ≡ a) × IsTrue (is_open A e w.ask) × Path c A w.far es b

-- The node is at the end of a path from an initial one.
abbrev pub Reach : Content → (ℕ → Bool) → (ℕ → Half → Bool) → ℕ → Type 0
Reach c I A n = (a : ℕ) × (es : List ℕ) × IsTrue (I a) × Path c A a es n

-- The offer is due after the run. It is new, its start and its gate are reached, and a required half of the
-- same edge was offered before it.
pub record IsDue (c : Content) (I : ℕ → Bool) (run : List Call) (e : ℕ) (h : Half) : Type 0 where
  pub way : Way
  pub is_way : IsWay c e way
  pub half : IsTrue (has_half way.ask h)
  pub start : Reach c I (was_accepted run) way.start
  pub gate : IsTrue (has_gate way.ask h) → Reach c I (was_accepted run) way.gate
  pub fresh : IsFalse (was_made run e h)
  pub turn : IsTrue (has_turn way.ask h) → IsTrue (was_made run e Required)

-- Each call's offer is due after the calls before it.
abbrev pub IsLegal : Content → (ℕ → Bool) → List Call → Type 0
IsLegal c I [] = Unit {0}
IsLegal c I (call ∷ before) = IsDue c I before call.edge call.half × IsLegal c I before

-- No offer is due at the end of the run.
abbrev pub IsComplete : Content → (ℕ → Bool) → List Call → Type 0
IsComplete c I run = (e : ℕ) (h : Half) → IsDue c I run e h → ⊥

-- Each offer of the run was accepted exactly if it is in `A`.
abbrev pub Agrees : (ℕ → Half → Bool) → List Call → Type 0
Agrees A [] = Unit {0}
Agrees A (call ∷ before) = (A call.edge call.half ≡ call.answer) × Agrees A before

-- A closed set: it has the initial nodes, and the far end of each unconditional edge that starts in it. It also
-- has the far end of each offer in `A` whose start, and gate if it waits for one, are in the set.
pub record IsClosed (c : Content) (I : ℕ → Bool) (A : ℕ → Half → Bool) (S : ℕ → Type 0) : Type 0 where
  pub initial : (n : ℕ) → IsTrue (I n) → S n
  pub unasked : (e : ℕ) (w : Way) → IsWay c e w → w.ask ≡ asks.Nobody → S w.start → S w.far
  pub offered : (e : ℕ) (h : Half) (w : Way) → IsWay c e w → IsTrue (has_half w.ask h) → IsTrue (A e h) → S w.start → (IsTrue (has_gate w.ask h) → S w.gate) → S w.far

-- The node is in every closed set.
abbrev pub Least : Content → (ℕ → Bool) → (ℕ → Half → Bool) → ℕ → Type 0
Least c I A n = (S : ℕ → Bool) → IsClosed c I A (λ k. IsTrue (S k)) → IsTrue (S n)

-- The states of an offerer along the run.
abbrev pub GoesAlong : {O : Type 0} → (O → ℕ → Half → Bool → O → Type 0) → O → List Call → O → Type 0
GoesAlong gives s [] t = s ≡ t
GoesAlong {O} gives s (call ∷ before) t = (m : O) × GoesAlong gives s before m × gives m call.edge call.half call.answer t

-- Some legal run leads the offerer from one state to the other.
abbrev pub LegalRun : {O : Type 0} → Content → (ℕ → Bool) → (O → ℕ → Half → Bool → O → Type 0) → O → O → Type 0
LegalRun c I gives s t = (run : List Call) × GoesAlong gives s run t × IsLegal c I run

-- The result of a walk that ran to its end: its run, legal and complete, and its members.
pub record IsWalk {O : Type 0} (c : Content) (I : ℕ → Bool) (gives : O → ℕ → Half → Bool → O → Type 0) (s t : O) (M : ℕ → Bool) : Type 0 where
  pub run : List Call
  pub calls : GoesAlong gives s run t
  pub legal : IsLegal c I run
  pub complete : IsComplete c I run
  pub members : (n : ℕ) → IsTrue (M n) ↔ Reach c I (was_accepted run) n
  pub least : (A : ℕ → Half → Bool) → Agrees A run → (n : ℕ) → IsTrue (M n) ↔ Least c I A n

-- Whether the number is in the list.
abbrev pub is_in : List ℕ → ℕ → Bool
is_in [] n = false
is_in (x ∷ xs) n = (x == n) || is_in xs n

-- Whether some half waits for the gate.
abbrev pub is_gated : Ask → Bool
is_gated ask = has_gate ask Optional

-- The ends of each edge are nodes, and so is its gate if a half waits for it.
abbrev pub EndsAreNodes : Content → Type 0
EndsAreNodes c = (e : ℕ) (w : Way) → IsWay c e w → (w.start < c.nodes) × (w.far < c.nodes) × (IsTrue (is_gated w.ask) → w.gate < c.nodes)

-- The numbers of the ways that pass, ascending; the first way has number `first`.
abbrev pub numbers_where : (Way → Bool) → ℕ → List Way → List ℕ
numbers_where p first [] = []
numbers_where p first (w ∷ ws) = if p w then first ∷ numbers_where p (suc first) ws else numbers_where p (suc first) ws

-- The edges with this start.
abbrev pub starting : Content → ℕ → List ℕ
starting c n = numbers_where (λ w. w.start == n) 0 c.ways

-- The edges with this gate.
abbrev pub releasing : Content → ℕ → List ℕ
releasing c n = numbers_where (λ w. is_gated w.ask && (w.gate == n)) 0 c.ways

abbrev pub taken_of : ℕ → Option Way → Option Taken
taken_of e None = None
taken_of e (Some w) = Some (record { edge = e; far = w.far; ask = w.ask })

-- The result of looking an edge up by its number.
abbrev pub told : Content → Option ℕ → Option Taken
told c None = None
told c (Some e) = taken_of e (slice_get c.ways e)

-- Each call is about an edge, and a half that the edge has.
abbrev pub AreOffers : Content → List Call → Type 0
AreOffers c [] = Unit {0}
AreOffers c (call ∷ before) = ((w : Way) × IsWay c call.edge w × IsTrue (has_half w.ask call.half)) × AreOffers c before

-- Every offer may be made, in every state that offers lead to.
abbrev pub MayAsk : {O : Type 0} → (O → ℕ → Half → Type 0) → (O → ℕ → Half → Bool → O → Type 0) → Content → O → Type 0
MayAsk {O} can gives c s = (run : List Call) (t : O) → AreOffers c run → GoesAlong gives s run t → (e : ℕ) (h : Half) (w : Way) → IsWay c e w → IsTrue (has_half w.ask h) → can t e h

-- The number of edges that start in the set.
abbrev pub edges_from : Content → (ℕ → Bool) → ℕ
edges_from c M = count_by (λ w. M w.start) c.ways

-- The number of edges with a half that waits for a gate in the set.
abbrev pub edges_gated_by : Content → (ℕ → Bool) → ℕ
edges_gated_by c M = count_by (λ w. is_gated w.ask && M w.gate) c.ways

-- Bounds on the reads of a walk. Each edge of a member is read. Beyond these there are at most two reads per
-- member, and one per edge that a member gates.
pub record ReadsAreBounded (c : Content) (members : List Bool) (before after : ℕ) : Type 0 where
  pub least : before + edges_from c (has members) ≤ after
  pub most : after ≤ before + 2 * count_by (λ b. b) members + edges_from c (has members) + edges_gated_by c (has members)
