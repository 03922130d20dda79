-- The answers to calls over the rows of a row file.
use Rattle.std.specs.Prelude.{◌≡◌, ◌⊎◌, ℕ, List, ◌++◌, Option, None, Some, Result, Ok, Err, length}
use Rattle.feature_graph_c.specs.binary.Records.{number, written}
use Rattle.feature_graph_c.specs.binary.Words.{words}
use Rattle.guppy_packages.specs.Rows.{Text}
use Rattle.guppy_packages.specs.Tables.{Tables}
use Rattle.guppy_packages.specs.declared.row_error.RowFault.{RowFault}
use Rattle.guppy_packages.specs.declared.row_error.RowFault.TheVariants as row
use Rattle.row_files.specs.RowFile.{tables_in}
use Rattle.row_files.specs.declared.error.RowFileError.{RowFileError}
use Rattle.row_files.specs.declared.error.RowFileError.TheVariants as error
use Rattle.feature_core.specs.Built.{Built, IsBuilt}
use Rattle.feature_graph_c.specs.records.Descriptions.{Describes}
use Rattle.feature_graph_c.specs.requests.Answers.{Answers, Has, broken}
use Rattle.feature_graph_c.specs.requests.Contents.{Walked, Reached, Ordered, Roots, Linked, Cyclic, Checked}
use Rattle.feature_graph_c.specs.requests.Requests.{walk_in, view_in, check_in}
use Rattle.feature_graph_c.specs.declared.answers.call.Call.{Call}
use Rattle.feature_graph_c.specs.declared.answers.call.Call.TheVariants as call

-- The answer when an allocation fails.
abbrev pub out_of_memory : List ℕ
out_of_memory = number 1

abbrev pub fault_number : RowFault → ℕ
fault_number row.NoPackage = 0
fault_number row.DuplicatePackage = 1
fault_number row.DuplicateFeature = 2
fault_number row.UnknownTarget = 3
fault_number row.OtherName = 4
fault_number row.Memory = 5

-- The answer to rows with a fault.
abbrev pub fault_record : RowFileError → List ℕ
fault_record error.NotText = number 3
fault_record (error.Malformed line) = number 4 ++ number line
fault_record (error.Row line fault) = number 5 ++ number line ++ number (fault_number fault)
fault_record error.Memory = out_of_memory

-- The answer to a call over a feature graph, from the numbers of the request.
abbrev pub CallAnswer : Call → Tables → Built → List ℕ → List ℕ → Type 0
CallAnswer call.Describe t b ws answer = Has (Describes t b) answer
CallAnswer call.Resolve t b ws answer = Answers (Walked b) (walk_in (length b.packages) (length b.edges) ws) answer
CallAnswer call.Reach t b ws answer = Answers (Reached t b) (view_in (length b.packages) ws) answer
CallAnswer call.Order t b ws answer = Answers (Ordered b) (view_in (length b.packages) ws) answer
CallAnswer call.Roots t b ws answer = Answers (Roots b) (view_in (length b.packages) ws) answer
CallAnswer call.Links t b ws answer = Answers (Linked b) (view_in (length b.packages) ws) answer
CallAnswer call.Cycles t b ws answer = Has (Cyclic b) answer
CallAnswer call.Check t b ws answer = Answers (Checked b) (check_in (length b.packages) ws) answer

-- The answer to a request that may be no list of numbers.
abbrev pub ForWords : (List ℕ → List ℕ → Type 0) → Option (List ℕ) → List ℕ → Type 0
ForWords Is (Some ws) answer = Is ws answer
ForWords Is None answer = answer ≡ broken

-- The answer over tables: that of the feature graph that is built from them.
pub record TablesAnswer (c : Call) (t : Tables) (request answer : List ℕ) : Type 0 where
  pub built : Built
  pub is_built : IsBuilt t built
  pub is_answer : ForWords (CallAnswer c t built) (words request) answer

-- The answer over the tables of rows, or over their fault.
abbrev pub RowsAnswer : Call → Result Tables RowFileError → List ℕ → List ℕ → Type 0
RowsAnswer c (Ok t) request answer = TablesAnswer c t request answer
RowsAnswer c (Err e) request answer = answer ≡ fault_record e

-- The answer to a call over the bytes of a row file and a request.
abbrev pub IsAnswer : Call → Text → List ℕ → List ℕ → Type 0
IsAnswer c rows request answer = RowsAnswer c (tables_in rows) request answer

-- A call returned `count`, and its buffer was `before` and is `after`: `count` is the length of the answer, which is at the
-- beginning of the buffer if it fits. The answer may be that an allocation failed.
pub record Wrote (c : Call) (rows request before : List ℕ) (count : ℕ) (after : List ℕ) : Type 0 where
  pub answer : List ℕ
  pub is_answer : IsAnswer c rows request answer ⊎ (answer ≡ out_of_memory)
  pub long : count ≡ length answer
  pub bytes : after ≡ written answer before
