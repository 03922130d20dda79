-- Iterators whose items may fail because an allocation fails.
use Rattle.std.specs.Prelude.{◌≡◌, ◌≢◌, List, [], ◌∷◌, Option, Some, None}
use Rattle.std.specs.declared.result.Result.{Result}
use Rattle.std.specs.declared.result.Result.TheVariants.{Ok, Err}
use Rattle.feature_core.specs.declared.error.Error.{Error}
use Rattle.feature_core.specs.declared.error.Error.TheVariants.{Memory}

-- `next` returned the first remaining item, `None` if nothing remained, or `Memory`; nothing remains after an error
abbrev pub GivesOrEnds : {S A B : Type 0} → (A → B → Type 0) → (S → List B) → S → Option (Result A Error) → S → Type 0
GivesOrEnds Is rest s None t = (rest s ≡ []) × (rest t ≡ [])
GivesOrEnds {S} {A} {B} Is rest s (Some (Ok item)) t = (first : B) × Is item first × (rest s ≡ first ∷ rest t)
GivesOrEnds Is rest s (Some (Err e)) t = (e ≡ Memory) × (rest s ≢ []) × (rest t ≡ [])
