-- The program's faults, with texts in place of strings.
use Rattle.std.specs.Prelude.{◌≡◌, ℕ, Result, Ok, Err}
use Rattle.std.specs.String.{string_bytes}
use Rattle.guppy_packages.specs.Rows.{Text}
use Rattle.byte_devices.specs.declared.whole.ReadError.{ReadError}
use Rattle.byte_devices.specs.declared.whole.ReadError.TheVariants as error
use Rattle.row_files.specs.declared.error.RowFileError.{RowFileError}
use Rattle.guppy_tool.specs.declared.fault.Fault.{Fault}
use Rattle.guppy_tool.specs.declared.fault.Fault.TheVariants as fault

-- the reason why there is no output
pub data Refusal : Type 0 where
  usage : Refusal
  bad_id : Text → Refusal
  cannot_read : Refusal
  row_file : RowFileError → Refusal
  unknown_package : Text → Refusal
  unknown_feature : Text → Refusal
  out_of_memory : Refusal
  cannot_write : Refusal

abbrev pub refusal_of : Fault → Refusal
refusal_of fault.Usage = usage
refusal_of (fault.BadId argument) = bad_id (string_bytes argument)
refusal_of fault.CannotRead = cannot_read
refusal_of (fault.RowFile error) = row_file error
refusal_of (fault.UnknownPackage id) = unknown_package (string_bytes id)
refusal_of (fault.UnknownFeature id) = unknown_feature (string_bytes id)
refusal_of fault.Memory = out_of_memory
refusal_of fault.CannotWrite = cannot_write

-- the refusal for a failed read
abbrev pub read_refusal : ReadError → Refusal
read_refusal error.Failed = cannot_read
read_refusal error.Memory = out_of_memory

-- nothing is claimed if an allocation fails
abbrev pub IfNotMemory : Refusal → Type 0 → Type 0
IfNotMemory out_of_memory claim = Unit {0}
IfNotMemory _ claim = claim

-- A call returned the expected result, with its value seen through `view`.
abbrev pub Gives : {X Y : Type 0} → (X → Y) → Result X Fault → Result Y Refusal → Type 0
Gives view (Ok x) given = given ≡ Ok (view x)
Gives view (Err e) given = IfNotMemory (refusal_of e) (given ≡ Err (refusal_of e))
