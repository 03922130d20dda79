-- How a run ends, and what it has written.
use Rattle.std.specs.Prelude.{◌≡◌, List, Option, Bool, true, false, IfSome, string_bytes}
use Rattle.std.specs.Io.KnownBytes.{Keeps}
use Rattle.cargo_workspaces.specs.Workspaces.{Text}
use Rattle.feats_files.specs.declared.fault.Fault.{Fault}
use Rattle.feats_files.specs.declared.fault.Fault.TheVariants as fault
use Rattle.feats_files.specs.declared.writing.Ended.{Ended}
use Rattle.feats_files.specs.Writing.{Writes}
use Rattle.feats_plans.specs.tool.Answers.{IsNoAnswer, IsShown}
use Rattle.feats_plans.specs.Inputs.{InputsText, unread_message}

-- THE END of a run over the bytes `left` that has an answer: its text as it is shown, whether it is negative, the part of it that was written,
-- and the warnings.
pub record HasAnswer (inputs : InputsText) (ended : Ended) (warnings : List Text) (left old new : Option Text) : Type 0 where
  pub text : Text
  pub is_answer : IfSome left (λ bytes. IsShown inputs bytes (record { answer = record { content = text; is_negative = ended.is_negative }; warnings = warnings }))
  pub written : Writes ended.is_written text old new

-- Why a run over the bytes `left` has no answer: a read failed, or the bytes have none.
pub data IsRefusedBy (inputs : InputsText) (left : Option Text) (read_failed : Bool) (message : Text) : Type 0 where
  by_reading : read_failed ≡ true → message ≡ unread_message inputs.arguments.metadata → IsRefusedBy inputs left read_failed message
  by_bytes : read_failed ≡ false → IfSome left (λ bytes. IsNoAnswer inputs bytes message) → IsRefusedBy inputs left read_failed message

-- A run over the bytes `left` ended with this fault, with the output `old` before it and `new` after it. Nothing was written.
abbrev pub Ends : InputsText → Fault → Option Text → Option Text → Option Text → Bool → Bool → Type 0
Ends inputs (fault.Refused message) left old new read_failed write_failed = Keeps old new × (write_failed ≡ false) × IsRefusedBy inputs left read_failed (string_bytes message)
Ends inputs (fault.Listed message) left old new read_failed write_failed = Keeps old new × (write_failed ≡ false) × IsRefusedBy inputs left read_failed (string_bytes message)
Ends inputs fault.Memory left old new read_failed write_failed = Keeps old new × (write_failed ≡ false)
Ends inputs fault.CannotWrite left old new read_failed write_failed = ⊥
