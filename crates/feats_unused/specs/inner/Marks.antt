-- Marked features: a flag for each feature of a package.
use Rattle.std.specs.Prelude.{◌≡◌, ◌⊎◌, ◌↔◌, ℕ, suc, ◌+◌, List, [], ◌∷◌, Bool, true, false, IsTrue, Some, Contains, length, map, slice_get, slice_index_or}
use Rattle.std.specs.List.Sorted.{IsStrictlySortedBy}
use Rattle.cargo_workspaces.specs.Workspaces.{FeatureText, PackageText, Text, text_cmp}
use Rattle.feats_unused.specs.Used.{IsUsed}

-- The features of a package are in the order of their names.
abbrev pub HasSortedFeatures : PackageText → Type 0
HasSortedFeatures p = IsStrictlySortedBy text_cmp (map (λ f. f.name) p.features)

-- The flag of feature `k`; false past the end.
abbrev pub flag : List Bool → ℕ → Bool
flag flags k = slice_index_or flags k false

-- The number of flags that are false.
abbrev pub blanks : List Bool → ℕ
blanks [] = 0
blanks (true ∷ flags) = blanks flags
blanks (false ∷ flags) = suc (blanks flags)

-- The features with this name are marked.
abbrev pub IsMarked : List FeatureText → List Bool → Text → Type 0
IsMarked features flags name = (k : ℕ) (f : FeatureText) → slice_get features k ≡ Some f → f.name ≡ name → IsTrue (flag flags k)

-- Some features that may be marked were marked, and their numbers appended.
pub record Marks (May : ℕ → Type 0) (old new : List Bool) (before after : List ℕ) : Type 0 where
  pub size : length new ≡ length old
  pub kept : (k : ℕ) → IsTrue (flag old k) → IsTrue (flag new k)
  pub may : (k : ℕ) → IsTrue (flag new k) → IsTrue (flag old k) ⊎ May k
  pub appended : (k : ℕ) → Contains after k → Contains before k ⊎ IsTrue (flag new k)
  pub stays : (k : ℕ) → Contains before k → Contains after k
  pub has_new : (k : ℕ) → IsTrue (flag new k) → IsTrue (flag old k) ⊎ Contains after k
  pub fewer : blanks new + length after ≡ blanks old + length before

-- Feature `k` has one of these names.
abbrev pub HasName : List FeatureText → List Text → ℕ → Type 0
HasName features names k = (f : FeatureText) × (slice_get features k ≡ Some f) × Contains names f.name

-- The flags say which features are used.
abbrev pub AreUsed : List Text → List FeatureText → List Bool → Type 0
AreUsed asked features flags = (k : ℕ) (f : FeatureText) → slice_get features k ≡ Some f → IsTrue (flag flags k) ↔ IsUsed asked features f.name
