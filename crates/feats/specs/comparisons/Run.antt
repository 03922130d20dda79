-- The end of a run of `diff`: its answer or its fault, and the bytes that it has written.
use Rattle.std.specs.Prelude.{◌≡◌, Option, Bool, true, false, IfSome, string_bytes}
use Rattle.std.specs.Io.KnownBytes.{Keeps}
use Rattle.cargo_workspaces.specs.Workspaces.{Text}
use Rattle.feats.specs.comparisons.Comparisons.{IsNoComparison, IsShown}
use Rattle.feats.specs.comparisons.Sides.{SideText, side}
use Rattle.feats_files.specs.declared.fault.Fault.{Fault}
use Rattle.feats_files.specs.declared.fault.Fault.TheVariants as fault
use Rattle.feats_files.specs.declared.writing.Ended.{Ended}
use Rattle.feats_files.specs.Writing.{Writes}
use Rattle.feats_plans.specs.Inputs.{InputsText, unread_message}

-- A side whose document a run reads: its inputs, the bytes that were left of its reader before, and whether a read of it failed.
pub record ReadSide : Type 0 where
  pub inputs : InputsText
  pub left : Option Text
  pub has_failed : Bool

abbrev pub read_side : InputsText → Option Text → Bool → ReadSide
read_side inputs left has_failed = record { inputs = inputs; left = left; has_failed = has_failed }

-- Both sides, with the documents that their readers had, are in this relation.
abbrev pub AreRelated : ReadSide → ReadSide → (SideText → SideText → Type 0) → Type 0
AreRelated old_side new_side Q = IfSome old_side.left (λ o. IfSome new_side.left (λ n. Q (side old_side.inputs o) (side new_side.inputs n)))

-- The end of a run over two documents that has an answer: its text as it is shown, whether it is negative, and the part of it that was written.
pub record IsWritten (old_side new_side : SideText) (ended : Ended) (old new : Option Text) : Type 0 where
  pub text : Text
  pub is_shown : IsShown old_side new_side (record { content = text; is_negative = ended.is_negative })
  pub written : Writes ended.is_written text old new

-- THE END of a run over two readers that has an answer: its text as it is shown, whether it is negative, and the part of it that was written.
pub record HasComparison (old_side new_side : ReadSide) (ended : Ended) (old new : Option Text) : Type 0 where
  pub text : Text
  pub is_shown : AreRelated old_side new_side (λ o n. IsShown o n (record { content = text; is_negative = ended.is_negative }))
  pub written : Writes ended.is_written text old new

-- Why a run has no answer: a read of the old document failed, or one of the new document, or the sides have none.
pub data IsRefusedBy (old_side new_side : ReadSide) (message : Text) : Type 0 where
  by_old_reading : old_side.has_failed ≡ true → message ≡ unread_message old_side.inputs.arguments.metadata → IsRefusedBy old_side new_side message
  by_new_reading : old_side.has_failed ≡ false → new_side.has_failed ≡ true → message ≡ unread_message new_side.inputs.arguments.metadata → IsRefusedBy old_side new_side message
  by_sides : old_side.has_failed ≡ false → new_side.has_failed ≡ false → AreRelated old_side new_side (λ o n. IsNoComparison o n message) → IsRefusedBy old_side new_side message

-- A run ended with this fault, with the output `old` before it and `new` after it. Nothing was written.
abbrev pub Ends : ReadSide → ReadSide → Fault → Option Text → Option Text → Bool → Type 0
Ends old_side new_side (fault.Refused message) old new write_failed = Keeps old new × (write_failed ≡ false) × IsRefusedBy old_side new_side (string_bytes message)
Ends old_side new_side (fault.Listed message) old new write_failed = Keeps old new × (write_failed ≡ false) × IsRefusedBy old_side new_side (string_bytes message)
Ends old_side new_side fault.Memory old new write_failed = Keeps old new × (write_failed ≡ false)
Ends old_side new_side fault.CannotWrite old new write_failed = ⊥
