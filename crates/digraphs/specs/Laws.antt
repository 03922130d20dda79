-- Laws of two sets.
use Rattle.std.specs.Prelude.{◌≡◌, ◌↔◌, ℕ, Bool, List}
use Rattle.digraphs.specs.Bits.{has, members}

-- Two sets list the same members exactly if each number is in both or in neither. Their sizes may differ.
abbrev pub SetsAreTheirMembers : Type 0
SetsAreTheirMembers = (a b : List Bool) → (members a ≡ members b) ↔ ((k : ℕ) → has a k ≡ has b k)
