-- Parts of two plans, paired by an order.
use Rattle.std.specs.Prelude.{◌≡◌, List, ◌++◌, Bool, map, drop, length, IsPermutation}
use Rattle.std.specs.List.{filter, zip}
use Rattle.std.specs.Ordering.{is_eq}
use Rattle.feats_diff.specs.changes.Orders.{Ascends, PartOrder, part_cmp}
use Rattle.feats_diff.specs.changes.Parts.{PartText}

-- Parts that go, pairs of an old part and a new one, and parts that come.
pub record PairingText : Type 0 where
  pub gone : List PartText
  pub pairs : List (PartText × PartText)
  pub comes : List PartText

-- Whether a part is equal to `q` by the order.
abbrev pub is_like : PartOrder → PartText → PartText → Bool
is_like cmp q x = is_eq (cmp q x)

-- The parts that are equal to `q`.
abbrev pub likes : PartOrder → PartText → List PartText → List PartText
likes cmp q parts = filter (is_like cmp q) parts

-- Of parts that are equal by the order, the k-th old one is paired with the k-th new one. The others go, or come.
pub record ArePaired (cmp : PartOrder) (old new : List PartText) (p : PairingText) : Type 0 where
  pub pairs : (q : PartText) → filter (λ e. is_like cmp q e.0) p.pairs ≡ zip (likes cmp q old) (likes cmp q new)
  pub gone : (q : PartText) → likes cmp q p.gone ≡ drop (length (likes cmp q new)) (likes cmp q old)
  pub comes : (q : PartText) → likes cmp q p.comes ≡ drop (length (likes cmp q old)) (likes cmp q new)

-- Each old part is in one pair or goes, and each new part is in one pair or comes.
pub record IsPartition (old new : List PartText) (p : PairingText) : Type 0 where
  pub olds : IsPermutation old (map (λ e. e.0) p.pairs ++ p.gone)
  pub news : IsPermutation new (map (λ e. e.1) p.pairs ++ p.comes)

-- The parts that go, those that come, and those of each side of the pairs are in the order of place, name, version and source.
pub record AreAscending (p : PairingText) : Type 0 where
  pub gone : Ascends part_cmp p.gone
  pub comes : Ascends part_cmp p.comes
  pub olds : Ascends part_cmp (map (λ e. e.0) p.pairs)
  pub news : Ascends part_cmp (map (λ e. e.1) p.pairs)
