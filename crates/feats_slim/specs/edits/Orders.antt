-- The order of edits: by what falls away.
use Rattle.std.specs.Prelude.{◌≡◌, ℕ, List, [], ◌∷◌, false, ⊤}
use Rattle.std.specs.Cmp.{IsTotalOrder, back_total, nat_cmp_total, on_total, then_total}
use Rattle.std.specs.List.{AllByRecursion}
use Rattle.std.specs.List.Sorted.{IsPermutation, IsStable}
use Rattle.std.specs.Ordering.{flip_args, is_lt, nat_cmp, on, then_cmp}
use Rattle.std.specs.declared.cmp.Ordering.{Ordering}
use Rattle.cargo_manifests.specs.Edits.{EditText}

-- An edit, and the numbers of packages and of features that fall away by it.
pub record SlimText : Type 0 where
  pub edit : EditText
  pub packages : ℕ
  pub features : ℕ

-- `Less` if more packages fall away by the first, or as many packages and more features.
abbrev pub slim_cmp : SlimText → SlimText → Ordering
slim_cmp = then_cmp (flip_args (on (λ s. s.packages) nat_cmp)) (flip_args (on (λ s. s.features) nat_cmp))

pub slim_total : IsTotalOrder slim_cmp
slim_total = then_total (back_total (on_total (λ s. s.packages) nat_cmp_total)) (back_total (on_total (λ s. s.features) nat_cmp_total))

-- No edit is followed by one by which more falls away.
abbrev pub Descends : List SlimText → Type 0
Descends [] = ⊤
Descends (x ∷ xs) = AllByRecursion (λ y. is_lt (slim_cmp y x) ≡ false) xs × Descends xs

-- The edits in order: most first, and those by which as much falls away as they were.
pub record IsInOrder (all slims : List SlimText) : Type 0 where
  pub are_all : IsPermutation all slims
  pub descends : Descends slims
  pub is_stable : IsStable slim_cmp all slims
