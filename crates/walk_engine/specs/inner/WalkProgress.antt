-- The state while a walk is under way.
use Rattle.std.specs.Prelude.{◌≡◌, ◌+◌, ◌*◌, ℕ, Bool, true, false, List, [], ◌∷◌, ◌++◌, Option, Some, None, slice_get, slice_set, IsTrue, IsFalse, ◌&&◌, ◌||◌, ◌==◌, not, ◌<◌, ◌≤◌, if◌then◌else◌, length, count_by, All, vec_len, vec_capacity}
use Rattle.digraphs.specs.Bits.{has}
use Rattle.walk_engine.specs.declared.walks.Half.{Half}
use Rattle.walk_engine.specs.declared.walks.Ask.TheVariants as asks
use Rattle.walk_engine.specs.declared.walks.progress.Found.{Found}
use Rattle.walk_engine.specs.declared.walks.progress.Condition.{Condition}
use Rattle.walk_engine.specs.declared.walks.progress.Condition.TheVariants.{Start, Gate}
use Rattle.walk_engine.specs.declared.walks.Step.{Step}
use Rattle.walk_engine.specs.declared.walks.StepReason.{StepReason}
use Rattle.walk_engine.specs.declared.walks.StepReason.TheVariants.{Initial, Offer}
use Rattle.walk_engine.specs.Walks.{Content, Way, Call, IsWay, numbers_where, has_half, has_gate, is_gated, Reach, was_made, was_accepted, IsLegal, GoesAlong, LegalRun, is_in}
use Rattle.walk_engine.specs.Explanations.{HasReasons, Distinct, nodes_of, refused_of}

-- The findings so far: the members, as a set and in order. If the walk explains, also their reasons and the
-- refused offers.
pub record Findings : Type 0 where
  pub members : List Bool
  pub order : List ℕ
  pub explains : Bool
  pub steps : List Step
  pub refused : List (ℕ × Half)

abbrev pub findings : Found → Findings
findings found = record { members = found.members; order = found.order.items; explains = found.explains; steps = found.steps.items; refused = found.refused.items }

-- The list with `x` appended, if the list is kept.
abbrev pub kept : {X : Type 0} → Bool → List X → X → List X
kept true xs x = xs ++ x ∷ []
kept false xs x = xs

-- The findings with the node added, if it isn't a member yet.
abbrev pub noted : Findings → ℕ → StepReason → Findings
noted f n r = record {
  members = slice_set f.members n true;
  order = if has f.members n then f.order else f.order ++ n ∷ [];
  explains = f.explains;
  steps = if has f.members n then f.steps else kept f.explains f.steps (record { node = n; reason = r });
  refused = f.refused;
}

-- The findings with the offer added to the refused ones.
abbrev pub refusing : Findings → ℕ → Half → Findings
refusing f e h = record { members = f.members; order = f.order; explains = f.explains; steps = f.steps; refused = kept f.explains f.refused (e, h) }

-- The findings after an answer.
abbrev pub answered : Findings → ℕ → ℕ → Half → Bool → Findings
answered f far e h true = noted f far (Offer e h)
answered f far e h false = refusing f e h

-- Each member is listed once.
pub record IsListed (f : Findings) : Type 0 where
  pub counted : count_by (λ b. b) f.members ≡ length f.order
  pub within : All (λ n. n < length f.members) f.order

-- Adding `k` more members and `k` more refused offers needs no allocation.
pub record HasRoom (k : ℕ) (found : Found) : Type 0 where
  pub order : vec_len found.order + k ≤ vec_capacity found.order
  pub steps : IsTrue found.explains → vec_len found.steps + k ≤ vec_capacity found.steps
  pub refused : IsTrue found.explains → vec_len found.refused + k ≤ vec_capacity found.refused

-- One offer is made if it is wanted, and nothing else changes.
abbrev pub Asks : {O : Type 0} → (O → ℕ → Half → Bool → O → Type 0) → Bool → ℕ → Half → ℕ → O → Findings → O → Findings → Type 0
Asks gives false e h far s f t g = (t ≡ s) × (g ≡ f)
Asks gives true e h far s f t g = (answer : Bool) × gives s e h answer t × (g ≡ answered f far e h answer)

-- One of the two conditions of a gated half is met; `ready` is true if the other was met before.
abbrev pub Comes : Bool → ℕ → List Bool → Bool → List Bool → Type 0
Comes false e old ready new = IsTrue ready × (new ≡ old)
Comes true e old ready new = (ready ≡ has old e) × (new ≡ slice_set old e true)

-- The invariant between two offers.
pub record Core {O : Type 0} (c : Content) (I : ℕ → Bool) (gives : O → ℕ → Half → Bool → O → Type 0) (s0 : O) (run : List Call) (s : O) (f : Findings) : Type 0 where
  pub calls : GoesAlong gives s0 run s
  pub legal : IsLegal c I run
  pub sound : (n : ℕ) → IsTrue (has f.members n) → Reach c I (was_accepted run) n
  pub initial : (n : ℕ) → IsTrue (I n) → IsTrue (has f.members n)
  pub ordered : (n : ℕ) → has f.members n ≡ is_in f.order n
  pub distinct : Distinct f.order
  pub named : IsTrue f.explains → f.order ≡ nodes_of f.steps
  pub explained : IsTrue f.explains → HasReasons c I (was_accepted run) f.order f.steps
  pub told : IsTrue f.explains → f.refused ≡ refused_of run

-- The invariant after the edges of `T` were taken and those of `G` released.
pub record IsAt {O : Type 0} (c : Content) (I : ℕ → Bool) (gives : O → ℕ → Half → Bool → O → Type 0) (s0 : O) (T G : ℕ → Bool) (s : O) (f : Findings) (met : List Bool) : Type 0 where
  pub run : List Call
  pub core : Core c I gives s0 run s f
  pub accepted : (e : ℕ) (h : Half) (w : Way) → IsWay c e w → IsTrue (was_accepted run e h) → IsTrue (has f.members w.far)
  pub started : (e : ℕ) (w : Way) → IsWay c e w → IsTrue (T e) → IsTrue (has f.members w.start)
  pub freed : (e : ℕ) (w : Way) → IsWay c e w → IsTrue (G e) → IsTrue (has f.members w.gate)
  pub unasked : (e : ℕ) (w : Way) → IsWay c e w → w.ask ≡ asks.Nobody → IsTrue (T e) → IsTrue (has f.members w.far)
  pub made : (e : ℕ) (h : Half) (w : Way) → IsWay c e w → IsTrue (has_half w.ask h) → was_made run e h ≡ (T e && (not (has_gate w.ask h) || G e))
  pub came : (e : ℕ) (w : Way) → IsWay c e w → IsTrue (is_gated w.ask) → has met e ≡ (T e || G e)

abbrev pub with_edge : (ℕ → Bool) → ℕ → ℕ → Bool
with_edge T e k = (k == e) || T k

-- Whether this condition of the way names the node.
abbrev pub at_node : Condition → ℕ → Way → Bool
at_node Start n = λ w. w.start == n
at_node Gate n = λ w. is_gated w.ask && (w.gate == n)

-- The edges whose condition the node meets.
abbrev pub edges_by : Condition → Content → ℕ → List ℕ
edges_by by c n = numbers_where (at_node by n) 0 c.ways

-- The edges that were followed by this condition.
abbrev pub followed : Condition → (ℕ → Bool) → (ℕ → Bool) → ℕ → Bool
followed Start T G = T
followed Gate T G = G

-- The edges taken and the edges released, after more were followed by this condition.
abbrev pub taken_too : Condition → (ℕ → Bool) → (ℕ → Bool) → ℕ → Bool
taken_too Start more T = λ e. more e || T e
taken_too Gate more T = T

abbrev pub freed_too : Condition → (ℕ → Bool) → (ℕ → Bool) → ℕ → Bool
freed_too Start more G = G
freed_too Gate more G = λ e. more e || G e

-- Following the edge keeps the invariant, with the edge taken or released.
abbrev pub FollowsEdge : {O : Type 0} → Condition → Content → (O → ℕ → Half → Bool → O → Type 0) → ℕ → ℕ → O → Findings → List Bool → O → Findings → List Bool → Type 0
FollowsEdge {O} by c gives node e s f met t g met' = (I : ℕ → Bool) (s0 : O) (T G : ℕ → Bool) → IsFalse (followed by T G e) → IsTrue (has f.members node) → IsAt c I gives s0 T G s f met → IsAt c I gives s0 (taken_too by (λ k. k == e) T) (freed_too by (λ k. k == e) G) t g met'

-- Listed members stay listed, in the same places.
pub record Extends (f g : Findings) : Type 0 where
  pub explains : g.explains ≡ f.explains
  pub more : List ℕ
  pub order : g.order ≡ f.order ++ more

-- Following these edges of a member keeps the invariant, with the edges taken or released.
abbrev pub FollowsAll : {O : Type 0} → Condition → List ℕ → Content → (O → ℕ → Half → Bool → O → Type 0) → ℕ → O → Findings → List Bool → O → Findings → List Bool → Type 0
FollowsAll {O} by xs c gives node s f met t g met' = (I : ℕ → Bool) (s0 : O) (T G : ℕ → Bool) → ((e : ℕ) → IsTrue (is_in (edges_by by c node) e) → IsFalse (followed by T G e)) → IsTrue (has f.members node) → IsAt c I gives s0 T G s f met → IsTrue (has g.members node) × IsAt c I gives s0 (taken_too by (is_in xs) T) (freed_too by (is_in xs) G) t g met'

-- An allocation failed while the edges of a member were followed: the calls made are a legal run.
abbrev pub FollowsStopped : {O : Type 0} → Condition → Content → (O → ℕ → Half → Bool → O → Type 0) → ℕ → O → Findings → List Bool → O → Type 0
FollowsStopped {O} by c gives node s f met t = (I : ℕ → Bool) (s0 : O) (T G : ℕ → Bool) → ((e : ℕ) → IsTrue (is_in (edges_by by c node) e) → IsFalse (followed by T G e)) → IsTrue (has f.members node) → IsAt c I gives s0 T G s f met → LegalRun c I gives s0 t

-- Whether the way with a number passes.
abbrev pub of_way : (Way → Bool) → Option Way → Bool
of_way p None = false
of_way p (Some w) = p w

abbrev pub passes : Content → (Way → Bool) → ℕ → Bool
passes c p e = of_way p (slice_get c.ways e)

-- The number of reads that the edges of these members cost.
abbrev pub reads_of : Content → List ℕ → ℕ
reads_of c done = 2 * length done + count_by (λ w. is_in done w.start) c.ways + count_by (λ w. is_gated w.ask && is_in done w.gate) c.ways

-- The invariant after the edges of these members were taken and released.
abbrev pub IsDone : {O : Type 0} → Content → (ℕ → Bool) → (O → ℕ → Half → Bool → O → Type 0) → O → List ℕ → O → Findings → List Bool → Type 0
IsDone c I gives s0 done s f met = IsAt c I gives s0 (passes c (λ w. is_in done w.start)) (passes c (λ w. is_gated w.ask && is_in done w.gate)) s f met

-- Exactly the initial nodes are members.
pub record Begun (I : ℕ → Bool) (f : Findings) : Type 0 where
  pub named : IsTrue f.explains → f.order ≡ nodes_of f.steps
  pub reasons : IsTrue f.explains → (k : ℕ) (step : Step) → slice_get f.steps k ≡ Some step → (step.reason ≡ Initial) × IsTrue (I step.node)
  pub initial : (n : ℕ) → IsTrue (I n) → IsTrue (has f.members n)
  pub only : (n : ℕ) → IsTrue (has f.members n) → IsTrue (I n)
  pub ordered : (n : ℕ) → has f.members n ≡ is_in f.order n
  pub distinct : Distinct f.order
  pub silent : IsTrue f.explains → f.refused ≡ []
