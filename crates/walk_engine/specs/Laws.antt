-- Definitions for the laws of walks.
use Rattle.std.specs.Prelude.{◌≡◌, ◌==◌, ℕ, Bool, true, List, IsFalse}
use Rattle.walk_engine.specs.declared.walks.Half.{Half}
use Rattle.walk_engine.specs.Walks.{Content, Way, Call, IsWay, GoesAlong, Path, is_gated}

-- The set of all offers.
abbrev pub every : ℕ → Half → Bool
every e h = true

-- The set of one node.
abbrev pub only : ℕ → ℕ → Bool
only a n = a == n

-- A path over all edges leads from one node to the other.
abbrev pub Leads : Content → ℕ → ℕ → Type 0
Leads c a b = (es : List ℕ) × Path c every a es b

-- The same edges, followed in the other direction.
pub record AreReverse (c d : Content) : Type 0 where
  pub nodes : c.nodes ≡ d.nodes
  pub forth : (e : ℕ) (w : Way) → IsWay c e w → (v : Way) × IsWay d e v × (v.start ≡ w.far) × (v.far ≡ w.start)
  pub back : (e : ℕ) (w : Way) → IsWay d e w → (v : Way) × IsWay c e v × (v.start ≡ w.far) × (v.far ≡ w.start)

-- No half waits for a gate, as in reverse.
abbrev pub IsUngated : Content → Type 0
IsUngated c = (e : ℕ) (w : Way) → IsWay c e w → IsFalse (is_gated w.ask)

-- After any run, the offerer's result for each offer is that of the test `A`.
abbrev pub AnswersBy : {O : Type 0} → (O → ℕ → Half → Bool → O → Type 0) → (ℕ → Half → Bool) → O → Type 0
AnswersBy {O} gives A s = (run : List Call) (t u : O) (e : ℕ) (h : Half) (b : Bool) → GoesAlong gives s run t → gives t e h b u → b ≡ A e h
