-- What sets contain.
use Rattle.std.specs.Prelude.{◌≡◌, List, Bool}
use Rattle.std.specs.Borrow.{Bor}
use Rattle.std.specs.BTreeSet.{BTreeSet}
use Rattle.std.specs.List.{list_any}
use Rattle.std.specs.Ordering.{is_eq}
use Rattle.std.specs.Str.{bytes_eq}
use Rattle.cargo_workspaces.specs.Workspaces.{Text, text_cmp}

abbrev pub is_in : BTreeSet (Bor Text) → Text → Bool
is_in set name = list_any (λ k. is_eq (text_cmp name k.now)) set.keys

-- The set has these names and no others.
abbrev pub HasNames : BTreeSet (Bor Text) → List Text → Type 0
HasNames set names = (q : Bor Text) → is_in set q.now ≡ list_any (bytes_eq q.now) names
