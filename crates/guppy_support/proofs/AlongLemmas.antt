-- Paths over steps.
use Rattle.std.proofs.Common.{ℕ}
use Rattle.guppy_support.specs.Reaches.{Along, nowhere, onward}

-- Appending a step to a path.
pub along_more : {Step : ℕ → ℕ → Type 0} {u v w : ℕ} → Along Step u v → Step v w → Along Step u w
along_more nowhere step = onward step nowhere
along_more (onward first rest) step = onward first (along_more rest step)

-- A path over steps that are all steps of another kind.
pub along_weaker : {P Q : ℕ → ℕ → Type 0} → ((u w : ℕ) → P u w → Q u w) → {u w : ℕ} → Along P u w → Along Q u w
along_weaker f nowhere = nowhere
along_weaker f (onward {u = a} {v = v} step rest) = onward (f a v step) (along_weaker f rest)
