-- Claims that hold unless an allocation fails, and a row file's errors as refusals.
use Rattle.std.proofs.Common.{◌≡◌, Result, Err, ap}
use Rattle.row_files.specs.declared.error.RowFileError.{RowFileError}
use Rattle.row_files.specs.declared.error.RowFileError.TheVariants as error
use Rattle.row_files.specs.FirstFault as file
use Rattle.guppy_tool.specs.Faults.{Refusal, IfNotMemory, usage, bad_id, cannot_read, row_file, unknown_package, unknown_feature, out_of_memory, cannot_write}
use Rattle.guppy_tool.specs.RowFileRefusals.{file_refusal, in_refusals}

-- a consequence of a claim that holds unless an allocation fails
pub if_not_memory : (r : Refusal) (P Q : Type 0) → (P → Q) → IfNotMemory r P → IfNotMemory r Q
if_not_memory out_of_memory P Q f h = tt
if_not_memory usage P Q f h = f h
if_not_memory (bad_id word) P Q f h = f h
if_not_memory cannot_read P Q f h = f h
if_not_memory (row_file error) P Q f h = f h
if_not_memory (unknown_package id) P Q f h = f h
if_not_memory (unknown_feature id) P Q f h = f h
if_not_memory cannot_write P Q f h = f h

refused : {X : Type 0} (given : Result X RowFileError) (e : RowFileError) → given ≡ Err e → in_refusals given ≡ Err (file_refusal e)
refused given e h = ap in_refusals h

-- an error of the row file is the refusal of its bytes
pub told : {X : Type 0} (given : Result X RowFileError) (e : RowFileError) → file.IfNotMemory e (given ≡ Err e) → IfNotMemory (file_refusal e) (in_refusals given ≡ Err (file_refusal e))
told given error.Memory h = tt
told given error.NotText h = refused given _ h
told given (error.Malformed n) h = refused given _ h
told given (error.Row n fault) h = refused given _ h
