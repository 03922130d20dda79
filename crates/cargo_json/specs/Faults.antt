-- Faults, with texts in place of strings, and steps that may be refused.
use Rattle.std.specs.Prelude.{◌≡◌, ℕ, List, [], ◌++◌, Result, Ok, Err, codes}
use Rattle.std.specs.Fmt.{decimal}
use Rattle.std.specs.String.{string_bytes}
use Rattle.byte_devices.specs.declared.whole.ReadError.{ReadError}
use Rattle.byte_devices.specs.declared.whole.ReadError.TheVariants as error
use Rattle.cargo_json.specs.declared.fault.Place.{Place}
use Rattle.cargo_json.specs.declared.fault.Place.TheVariants as at
use Rattle.cargo_json.specs.declared.fault.DocumentFault.{DocumentFault}
use Rattle.cargo_json.specs.declared.fault.DocumentFault.TheVariants as refused
use Rattle.cargo_json.specs.declared.fault.Fault.{Fault}
use Rattle.cargo_json.specs.declared.fault.Fault.TheVariants as fault

-- a text, as its bytes
abbrev pub Text : Type 0
Text = List ℕ

-- the path of an object, with a dot before the field's name
abbrev pub place_text : Place → Text
place_text at.Document = []
place_text at.Resolve = codes "resolve."
place_text (at.Package owner) = codes "packages[" ++ (decimal owner ++ codes "].")
place_text (at.Dependency owner dependency) = codes "packages[" ++ (decimal owner ++ (codes "].dependencies[" ++ (decimal dependency ++ codes "].")))
place_text (at.Target owner target) = codes "packages[" ++ (decimal owner ++ (codes "].targets[" ++ (decimal target ++ codes "].")))
place_text (at.Node node) = codes "resolve.nodes[" ++ (decimal node ++ codes "].")
place_text (at.Dep node dep) = codes "resolve.nodes[" ++ (decimal node ++ (codes "].deps[" ++ (decimal dep ++ codes "].")))
place_text (at.DepKind node dep kind) = codes "resolve.nodes[" ++ (decimal node ++ (codes "].deps[" ++ (decimal dep ++ (codes "].dep_kinds[" ++ (decimal kind ++ codes "].")))))

-- the reason why a document has no rows
pub data Refusal : Type 0 where
  bad_field : Place → Text → Refusal
  repeated : Place → Refusal
  no_package : Place → Text → Text → Refusal
  ambiguous : Text → Text → Refusal
  two_names : Text → Text → Text → Text → Refusal
  control : Text → Refusal
  every_platform : Place → Refusal
  no_deps : Refusal
  out_of_memory : Refusal

abbrev pub refusal_of : DocumentFault → Refusal
refusal_of (refused.Field place name) = bad_field place name.now
refusal_of (refused.Repeated place) = repeated place
refusal_of (refused.NoPackage place name id) = no_package place name.now (string_bytes id)
refusal_of (refused.Ambiguous owner name) = ambiguous (string_bytes owner) (string_bytes name)
refusal_of (refused.TwoNames owner target first second) = two_names (string_bytes owner) (string_bytes target) (string_bytes first) (string_bytes second)
refusal_of (refused.Control text) = control (string_bytes text)
refusal_of (refused.EveryPlatform place) = every_platform place
refusal_of refused.NoDeps = no_deps
refusal_of refused.Memory = out_of_memory

-- the fault for a failed read
abbrev pub read_fault : ReadError → Fault
read_fault error.Failed = fault.CannotRead
read_fault error.Memory = fault.Memory

-- the exit status: 2 for a fault of the command line, and 1 for every other
abbrev pub exit_status : Fault → ℕ
exit_status fault.Usage = 2
exit_status fault.CannotRead = 1
exit_status fault.NotText = 1
exit_status (fault.NotJson line column) = 1
exit_status (fault.Document refused) = 1
exit_status fault.Memory = 1
exit_status fault.CannotWrite = 1

-- nothing is claimed if an allocation fails
abbrev pub IfNotMemory : Refusal → Type 0 → Type 0
IfNotMemory out_of_memory claim = Unit {0}
IfNotMemory _ claim = claim

-- A call returned the expected result, with its value seen through `view`.
abbrev pub Gives : {X Y : Type 0} → (X → Y) → Result X DocumentFault → Result Y Refusal → Type 0
Gives view (Ok x) given = given ≡ Ok (view x)
Gives view (Err e) given = IfNotMemory (refusal_of e) (given ≡ Err (refusal_of e))

-- the second step, if the first returned a value
infixl 10 ◌>>=◌
abbrev pub ◌>>=◌ : {A B : Type 0} → Result A Refusal → (A → Result B Refusal) → Result B Refusal
(Ok x) >>= f = f x
(Err e) >>= f = Err e
