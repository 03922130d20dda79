-- The text that a run writes for the bytes that it read, and the ways in which a run ends.
use Rattle.std.specs.Prelude.{◌≡◌, Option, ◌++◌, Bool, true, false, Result, Ok, Err, IfSome}
use Rattle.std.specs.Io.KnownBytes.{Keeps, Appends}
use Rattle.guppy_packages.specs.Rows.{Text}
use Rattle.guppy_packages.specs.Tables.{Tables}
use Rattle.guppy_tool.specs.Faults.{Refusal, IfNotMemory, refusal_of, usage, bad_id, cannot_read, cannot_write, out_of_memory}
use Rattle.guppy_tool.specs.RowFileRefusals.{tables_in}
use Rattle.guppy_tool.specs.Words.{CommandText}
use Rattle.guppy_tool.specs.Answers.{IsOutput}
use Rattle.guppy_tool.specs.declared.fault.Fault.{Fault}

-- the output over the tables of a row file, or the refusal of its bytes
abbrev pub IsOutputOf : CommandText → Result Tables Refusal → Result Text Refusal → Type 0
IsOutputOf command (Ok tables) answer = IsOutput command tables answer
IsOutputOf command (Err refusal) answer = answer ≡ Err refusal

-- the answer for the bytes of a row file: a text, or the first refusal
abbrev pub IsAnswer : CommandText → Text → Result Text Refusal → Type 0
IsAnswer command bytes answer = IsOutputOf command (tables_in bytes) answer

-- A call returned an answer, with its text seen through `view`.
abbrev pub GivesAnswer : {X : Type 0} → (X → Text) → Result X Fault → (Result Text Refusal → Type 0) → Type 0
GivesAnswer view (Ok x) answers = answers (Ok (view x))
GivesAnswer view (Err fault) answers = IfNotMemory (refusal_of fault) (answers (Err (refusal_of fault)))

-- A run over the bytes `left` ended with this refusal: the text written so far, and the device that failed. A run stops
-- at the first failure, so at most one device has failed, and only if the refusal says so.
abbrev pub Ends : Refusal → Option Text → (Text → Result Text Refusal → Type 0) → Option Text → Option Text → Bool → Bool → Type 0
Ends cannot_read left answers old new read_failed write_failed = Keeps old new × (read_failed ≡ true) × (write_failed ≡ false)
Ends cannot_write left answers old new read_failed write_failed =
    (read_failed ≡ false) × (write_failed ≡ true) × IfSome left (λ bytes. (text front rest : Text) × answers bytes (Ok text) × (text ≡ front ++ rest) × Appends old new front)
Ends out_of_memory left answers old new read_failed write_failed = Keeps old new × (read_failed ≡ false) × (write_failed ≡ false)
Ends usage left answers old new read_failed write_failed = ⊥
Ends (bad_id word) left answers old new read_failed write_failed = ⊥
Ends refusal left answers old new read_failed write_failed = Keeps old new × (read_failed ≡ false) × (write_failed ≡ false) × IfSome left (λ bytes. answers bytes (Err refusal))
