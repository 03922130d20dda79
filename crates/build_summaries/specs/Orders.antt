-- The order of the packages in a summary.
use Rattle.std.specs.Prelude.{◌≡◌, ℕ, List, [], ◌∷◌, false, ⊤}
use Rattle.std.specs.Cmp.{IsTotalOrder, nat_cmp_total, on_total, then_total}
use Rattle.std.specs.Cmp.Lexicographic.{on_texts, slice_cmp}
use Rattle.std.specs.List.{AllByRecursion}
use Rattle.std.specs.List.Sorted.{IsPermutation, IsStable}
use Rattle.std.specs.Ordering.{is_lt, nat_cmp, on, then_cmp}
use Rattle.std.specs.declared.cmp.Ordering.{Ordering}
use Rattle.build_summaries.specs.declared.packages.Status.{Status}
use Rattle.build_summaries.specs.declared.packages.Status.TheVariants.{Initial, Workspace, Direct, Transitive}
use Rattle.build_summaries.specs.Strings.{Text}
use Rattle.build_summaries.specs.Summaries.{PackageText, summary}

abbrev pub status_rank : Status → ℕ
status_rank Initial = 0
status_rank Workspace = 1
status_rank Direct = 2
status_rank Transitive = 3

-- By status, and then by name.
abbrev pub package_cmp : PackageText → PackageText → Ordering
package_cmp = then_cmp (on (λ p. status_rank p.status) nat_cmp) (on (λ p. p.name) (slice_cmp nat_cmp))

pub package_total : IsTotalOrder package_cmp
package_total = then_total (on_total (λ p. status_rank p.status) nat_cmp_total) (on_texts (λ p. p.name))

-- No package is followed by one that is before it.
abbrev pub Ascends : List PackageText → Type 0
Ascends [] = ⊤
Ascends (x ∷ xs) = AllByRecursion (λ y. is_lt (package_cmp y x) ≡ false) xs × Ascends xs

-- The packages in order: initial ones first, each status by name, and those of one name as they were.
pub record IsInOrder (all packages : List PackageText) : Type 0 where
  pub are_all : IsPermutation all packages
  pub ascends : Ascends packages
  pub is_stable : IsStable package_cmp all packages

-- A SUMMARY of packages: that of the packages in order.
pub record IsSummary (targets hosts : List PackageText) (text : Text) : Type 0 where
  pub targets_in_order : List PackageText
  pub hosts_in_order : List PackageText
  pub are_targets : IsInOrder targets targets_in_order
  pub are_hosts : IsInOrder hosts hosts_in_order
  pub is_text : text ≡ summary targets_in_order hosts_in_order
