-- Paths over steps, and the steps along the edges of a digraph that are followed.
use Rattle.std.specs.Prelude.{◌≡◌, ℕ, ◌<◌, Bool, List, IsTrue, length}
use Rattle.digraphs.specs.declared.digraph.Edge.{Edge}
use Rattle.guppy_support.specs.declared.reading.Reading.{Reading}
use Rattle.guppy_support.specs.Views.{start_of, end_of}

-- A path over steps, possibly empty.
pub data Along (Step : ℕ → ℕ → Type 0) : ℕ → ℕ → Type 0 where
  nowhere : {u : ℕ} → Along Step u u
  onward : {u v w : ℕ} → Step u v → Along Step v w → Along Step u w

-- The node `w` ends a path from one of `initials`.
abbrev pub ReachAlong : (ℕ → ℕ → Type 0) → (ℕ → Bool) → ℕ → Type 0
ReachAlong Step initials w = (u : ℕ) × IsTrue (initials u) × Along Step u w

-- Some edge that is followed starts at `u` and ends at `v`.
pub record FollowedStep (r : Reading) (es : List Edge) (follows : ℕ → Bool) (u v : ℕ) : Type 0 where
  pub edge : ℕ
  pub within : edge < length es
  pub followed : IsTrue (follows edge)
  pub start : start_of r es edge ≡ u
  pub end : end_of r es edge ≡ v
