-- How a run ends, and the bytes that it has written.
use Rattle.std.specs.Prelude.{◌≡◌, ◌++◌, List, Bool, true, false, Option, None, Ok, Err, IfSome, IsSomeAnd}
use Rattle.std.specs.Str.{IsUtf8}
use Rattle.std.specs.Io.KnownBytes.{Keeps, Appends}
use Rattle.cargo_json.specs.declared.fault.Fault.{Fault}
use Rattle.cargo_json.specs.declared.fault.Fault.TheVariants as fault
use Rattle.cargo_rows.specs.Document.{document}
use Rattle.cargo_json.specs.Faults.{Text, refusal_of}
use Rattle.cargo_rows.specs.Rows.{rows_of}
use Rattle.cargo_rows.specs.Warnings.{WarningText, warnings_of}

-- the bytes are a document, and the text is its rows; both are UTF-8
abbrev pub AreRows : Text → Text → Type 0
AreRows bytes text = IsUtf8 bytes × IsUtf8 text × IsSomeAnd (document bytes) (λ d. rows_of d ≡ Ok text)

-- the bytes are a document, and these are its warnings
abbrev pub AreWarnings : Text → List WarningText → Type 0
AreWarnings bytes warnings = IsUtf8 bytes × IsSomeAnd (document bytes) (λ d. warnings_of d ≡ Ok warnings)

-- The bytes have no rows, for the reason `fault`: they aren't UTF-8, aren't JSON, or are a document with this first fault.
abbrev pub Refuses : Text → Fault → Type 0
Refuses bytes fault.NotText = ¬ (IsUtf8 bytes)
Refuses bytes (fault.NotJson line column) = IsUtf8 bytes × (document bytes ≡ None)
Refuses bytes (fault.Document refused) = IsUtf8 bytes × IsSomeAnd (document bytes) (λ d. rows_of d ≡ Err (refusal_of refused))
Refuses bytes fault.Memory = Unit {0}
Refuses bytes fault.Usage = ⊥
Refuses bytes fault.CannotRead = ⊥
Refuses bytes fault.CannotWrite = ⊥

-- A run over the bytes `left` ended with this fault, with the output `old` before it and `new` after it. If a write failed, a
-- beginning of the rows may have been written; otherwise nothing was.
abbrev pub Ends : Fault → Option Text → Option Text → Option Text → Bool → Bool → Type 0
Ends fault.CannotRead left old new read_failed write_failed = Keeps old new × (read_failed ≡ true) × (write_failed ≡ false)
Ends fault.CannotWrite left old new read_failed write_failed = (read_failed ≡ false) × (write_failed ≡ true) × IfSome left (λ bytes. (front : Text) × (rest : Text) × AreRows bytes (front ++ rest) × Appends old new front)
Ends refusal left old new read_failed write_failed = Keeps old new × (read_failed ≡ false) × (write_failed ≡ false) × IfSome left (λ bytes. Refuses bytes refusal)
