-- Names that are gathered once each.
use Rattle.std.specs.Prelude.{◌≡◌, List}
use Rattle.std.specs.Borrow.{Bor}
use Rattle.std.specs.BTreeSet.{BTreeSet}
use Rattle.std.specs.List.{list_any}
use Rattle.std.specs.Ordering.{is_eq}
use Rattle.std.specs.Str.{bytes_eq}
use Rattle.cargo_workspaces.specs.Views.{texts}
use Rattle.cargo_workspaces.specs.Workspaces.{Text, text_cmp}
use Rattle.feats_list.specs.features.Lists.{once}

-- The set has these texts and no others.
abbrev pub HasTexts : BTreeSet (Bor Text) → List Text → Type 0
HasTexts set all = (q : Bor Text) → list_any (λ k. is_eq (text_cmp q.now k.now)) set.keys ≡ list_any (bytes_eq q.now) all

-- The set has all these texts, and the names are the same once each.
pub record AreOnce (all : List Text) (seen : BTreeSet (Bor Text)) (names : List (Bor Text)) : Type 0 where
  pub are_seen : HasTexts seen all
  pub are_once : texts names ≡ once all
