-- Numbers, texts and lists as bytes.
use Rattle.std.specs.Prelude.{ℕ, List, ◌++◌, Bool, true, false, Option, None, Some, length, map, nat_le, drop, if◌then◌else◌}
use Rattle.std.specs.List.{concat}
use Rattle.std.specs.Int.{w64, to_le_bytes}

-- A number: eight bytes, the lowest first.
abbrev pub number : ℕ → List ℕ
number n = to_le_bytes w64 n

-- A flag: 1 if it is true, 0 if not.
abbrev pub flag : Bool → List ℕ
flag true = number 1
flag false = number 0

-- A text: the number of its bytes, and the bytes.
abbrev pub text : List ℕ → List ℕ
text bytes = number (length bytes) ++ bytes

-- A list: the number of its entries, and the entries.
abbrev pub listed : List (List ℕ) → List ℕ
listed entries = number (length entries) ++ concat entries

-- The list of the records of some values.
abbrev pub list : {X : Type 0} → (X → List ℕ) → List X → List ℕ
list record_of xs = listed (map record_of xs)

-- A value that may be absent: 0, or 1 and the value.
abbrev pub optional : {X : Type 0} → (X → List ℕ) → Option X → List ℕ
optional record_of None = number 0
optional record_of (Some x) = number 1 ++ record_of x

-- A buffer after an answer: it begins with the answer if that fits, and is unchanged if not.
abbrev pub written : List ℕ → List ℕ → List ℕ
written answer buffer = if nat_le (length answer) (length buffer) then answer ++ drop (length answer) buffer else buffer
