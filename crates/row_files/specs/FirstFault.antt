-- The first fault of several items, and results that may be allocation failures.
use Rattle.std.specs.Prelude.{◌≡◌, List, Option, Result, Ok, Err, find, is_none}
use Rattle.std.specs.List.{filter_map}
use Rattle.std.specs.Option.{option_map_or}
use Rattle.row_files.specs.declared.error.RowFileError.{RowFileError}
use Rattle.row_files.specs.declared.error.RowFileError.TheVariants as error

-- The value of `f` for each item, or the fault of the first item for which it is `None`.
abbrev pub each_or : {A B E : Type 0} → (A → Option B) → (A → E) → List A → Result (List B) E
each_or f fault items = option_map_or (λ x. Err (fault x)) (find (λ x. is_none (f x)) items) (Ok (filter_map f items))

-- The claim, unless the error is that an allocation failed.
abbrev pub IfNotMemory : RowFileError → Type 0 → Type 0
IfNotMemory error.Memory claim = Unit {0}
IfNotMemory _ claim = claim

-- A result whose value, seen by a view, is the given one, or whose error is the given one or
-- `Memory`.
abbrev pub Gives : {X Y : Type 0} → (X → Y) → Result X RowFileError → Result Y RowFileError → Type 0
Gives view (Ok x) given = given ≡ Ok (view x)
Gives view (Err e) given = IfNotMemory e (given ≡ Err e)
