-- What sets contain.
use Rattle.std.specs.Prelude.{◌≡◌, List}
use Rattle.std.specs.Borrow.{Bor}
use Rattle.std.specs.List.{list_any}
use Rattle.std.specs.Str.{bytes_eq}
use Rattle.std.specs.Ordering.{is_eq}
use Rattle.std.specs.BTreeSet.{BTreeSet}
use Rattle.cargo_workspaces.specs.Workspaces.{Text, text_cmp}

-- A set has these texts and no others.
abbrev pub HasTexts : BTreeSet (Bor Text) → List Text → Type 0
HasTexts set texts = (q : Bor Text) → list_any (λ k. is_eq (text_cmp q.now k.now)) set.keys ≡ list_any (bytes_eq q.now) texts
