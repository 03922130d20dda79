-- The effect of a read or a write on the mark of a failure.
use Rattle.std.specs.Prelude.{◌≡◌, Bool, true, false, Result, MatchResult}
use Rattle.byte_devices.specs.declared.whole.ReadError.{ReadError}
use Rattle.byte_devices.specs.declared.whole.ReadError.TheVariants as error

-- An `Err` sets the mark, and nothing else changes it.
abbrev pub MarksFailure : {X E : Type 0} → Bool → Bool → Result X E → Type 0
MarksFailure old new result = MatchResult result (λ _. new ≡ old) (λ _. new ≡ true)

-- Whether a read failed. An allocation that fails is no failure of the reader.
abbrev pub is_failure : ReadError → Bool
is_failure error.Failed = true
is_failure error.Memory = false
