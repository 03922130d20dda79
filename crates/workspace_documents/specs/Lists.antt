-- Lists of the document, read item by item, and values by their ids.
use Rattle.std.specs.Prelude.{ℕ, ◌+◌, List, [], ◌∷◌, ◌++◌, Option, Some, None, Result, Ok, Err, is_some, if◌then◌else◌}
use Rattle.std.specs.Ordering.{nat_cmp}
use Rattle.std.specs.Cmp.Lexicographic.{slice_cmp}
use Rattle.std.specs.Str.{bytes_eq}
use Rattle.std.specs.Map.{lookup}
use Rattle.std.specs.BTreeMap.{insert_entry}
use Rattle.std.specs.declared.cmp.Ordering.{Ordering}
use Rattle.json.specs.Json.{Json, Items, no_items, item}
use Rattle.cargo_json.specs.declared.fault.Place.{Place}
use Rattle.cargo_json.specs.Faults.{Text, Refusal, repeated, ◌>>=◌}

-- each item as `read` reads it, with places from `n` on; or the first fault
abbrev pub each : {X : Type 0} → (ℕ → Json → Result X Refusal) → ℕ → Items → Result (List X) Refusal
each read n no_items = Ok []
each read n (item d ds) = read n d >>= λ x. each read (n + 1) ds >>= λ xs. Ok (x ∷ xs)

-- the texts of the items, joined; or the first fault
abbrev pub joined : {X : Type 0} → (X → Result Text Refusal) → List X → Result Text Refusal
joined told [] = Ok []
joined told (x ∷ xs) = told x >>= λ first. joined told xs >>= λ rest. Ok (first ++ rest)

-- the first value that isn't missing
abbrev pub first_some : {X : Type 0} → List (Option X) → Option X
first_some [] = None
first_some (None ∷ xs) = first_some xs
first_some (Some x ∷ xs) = Some x

-- values by their ids, in the order of the ids' bytes
abbrev pub ById : Type 0 → Type 0
ById X = List (Text × X)

abbrev pub id_cmp : Text → Text → Ordering
id_cmp = slice_cmp nat_cmp

abbrev pub at_id : {X : Type 0} → Text → ById X → Option X
at_id id xs = lookup (bytes_eq id) xs

-- `xs` and each item as `read` reads it, with places from `n` on; or the first fault. An id that is repeated is a fault of the
-- later item.
abbrev pub each_by_id : {X : Type 0} → (ℕ → Json → Result (Text × X) Refusal) → (ℕ → Place) → ℕ → ById X → Items → Result (ById X) Refusal
each_by_id read place n xs no_items = Ok xs
each_by_id read place n xs (item d ds) =
    read n d >>= λ x. if is_some (at_id x.0 xs) then Err (repeated (place n)) else each_by_id read place (n + 1) (insert_entry id_cmp xs x.0 x.1) ds
