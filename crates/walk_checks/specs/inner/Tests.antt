-- The tests that a check consists of.
use Rattle.std.specs.Prelude.{◌≡◌, ℕ, Bool, true, false, not, List, Some, slice_get, length, IsTrue, ◌&&◌, ◌||◌, ◌==◌}
use Rattle.digraphs.specs.Bits.{has}
use Rattle.walk_engine.specs.declared.walks.Half.{Half}
use Rattle.walk_engine.specs.declared.walks.Half.TheVariants.{Full, Required, Optional}
use Rattle.walk_engine.specs.declared.walks.Ask.{Ask}
use Rattle.walk_engine.specs.declared.walks.Ask.TheVariants as asks
use Rattle.walk_engine.specs.declared.walks.Step.{Step}
use Rattle.walk_engine.specs.declared.walks.StepReason.{StepReason}
use Rattle.walk_engine.specs.declared.walks.StepReason.TheVariants.{Initial, Edge, Offer}
use Rattle.walk_engine.specs.Walks.{Content, Way, IsWay, has_half, has_gate}
use Rattle.walk_checks.specs.declared.table.TableEdge.{TableEdge}
use Rattle.walk_checks.specs.declared.refusals.Refusals.{Refusals}

-- Whether the edge is unconditional.
abbrev pub is_unasked : Ask → Bool
is_unasked asks.Nobody = true
is_unasked asks.Full = false
is_unasked (asks.Weak required gated) = false

-- Whether the edge leads from a node of `L` to `n`.
abbrev pub leads_to : TableEdge → (ℕ → Bool) → ℕ → Bool
leads_to edge L n = (edge.far == n) && L edge.start

-- Whether the edge has the half, and its gate is in `L` if the half waits for it.
abbrev pub is_offered : TableEdge → Half → (ℕ → Bool) → Bool
is_offered edge h L = has_half edge.ask h && (not (has_gate edge.ask h) || L edge.gate)

-- Whether the half is offered, and is in `A`.
abbrev pub is_open_by : (ℕ → Half → Bool) → (ℕ → Bool) → ℕ → TableEdge → Half → Bool
is_open_by A L e edge h = is_offered edge h L && A e h

-- Whether the edge must be followed once its start is in `L`.
abbrev pub leads_on : (ℕ → Half → Bool) → (ℕ → Bool) → ℕ → TableEdge → Bool
leads_on A L e edge = is_unasked edge.ask || is_open_by A L e edge Full || is_open_by A L e edge Required || is_open_by A L e edge Optional

-- The far end is in `L` if the way must be followed.
pub record Keeps (A : ℕ → Half → Bool) (L : ℕ → Bool) (e : ℕ) (w : Way) : Type 0 where
  pub unasked : w.ask ≡ asks.Nobody → IsTrue (L w.far)
  pub offered : (h : Half) → IsTrue (has_half w.ask h) → IsTrue (A e h) → (IsTrue (has_gate w.ask h) → IsTrue (L w.gate)) → IsTrue (L w.far)

-- The offer that the reason names, if any, is in `A`.
abbrev pub KeepsReason : (ℕ → Half → Bool) → StepReason → Type 0
KeepsReason A Initial = Unit {0}
KeepsReason A (Edge e) = Unit {0}
KeepsReason A (Offer e h) = IsTrue (A e h)

-- Each offer that a step names is in `A`.
abbrev pub NamesOnly : (ℕ → Half → Bool) → List Step → Type 0
NamesOnly A steps = (k : ℕ) (step : Step) → slice_get steps k ≡ Some step → KeepsReason A step.reason

-- The steps name only offers in `A`, and their nodes, `L`, are closed for `A`.
abbrev pub IsComplete : (ℕ → Half → Bool) → Content → (ℕ → Bool) → (ℕ → Bool) → List Step → Type 0
IsComplete A c I L steps = NamesOnly A steps × ((n : ℕ) → IsTrue (I n) → IsTrue (L n)) × ((e : ℕ) (w : Way) → IsWay c e w → IsTrue (L w.start) → Keeps A L e w)

-- Whether the half of the edge is marked as refused.
abbrev pub has_mark : Refusals → ℕ → Half → Bool
has_mark r e Full = has r.full e
has_mark r e Required = has r.required e
has_mark r e Optional = has r.optional e

abbrev pub unmarked : Refusals → ℕ → Half → Bool
unmarked r e h = not (has_mark r e h)

-- The table has marks for `count` edges.
pub record AreSized (count : ℕ) (r : Refusals) : Type 0 where
  pub full : length r.full ≡ count
  pub required : length r.required ≡ count
  pub optional : length r.optional ≡ count
