-- Packages by two tests that agree.
use Rattle.std.proofs.Common.{◌≡◌, ℕ, ◌+◌, ◌<◌, List, [], ◌∷◌, ◌++◌, Bool, ap, ap₂, arith, if◌then◌else◌, length, refl}
use Rattle.build_summaries.specs.Summaries as summaries
use Rattle.cargo_plans.specs.plan_starts.Lists.{joined_from}
use Rattle.cargo_plans.specs.plan_units.Units.{UnitText}
use Rattle.feats_summary.specs.Packages.{KnownText, is_in, package_at, packages_by}

abbrev of_unit : KnownText → (ℕ → Bool) → Bool → ℕ → UnitText → List summaries.PackageText
of_unit known direct at_host k u = if is_in at_host u.place then package_at known (direct k) u else []

same_from : (known : KnownText) (f g : ℕ → Bool) (at_host : Bool) (n : ℕ) (units : List UnitText) → ((k : ℕ) → k < n + length units → f k ≡ g k) → joined_from (of_unit known f at_host) n units ≡ joined_from (of_unit known g at_host) n units
same_from known f g at_host n [] same = refl
same_from known f g at_host n (u ∷ units) same =
    ap₂ (λ (xs ys : List summaries.PackageText). xs ++ ys)
    (ap (λ (b : Bool). if is_in at_host u.place then package_at known b u else []) (same n (omega arith)))
    (same_from known f g at_host (n + 1) units (λ k below. same k (omega (arith, below))))

pub same_packages : (known : KnownText) (f g : ℕ → Bool) (at_host : Bool) (units : List UnitText) → ((k : ℕ) → k < length units → f k ≡ g k) → packages_by known f at_host units ≡ packages_by known g at_host units
same_packages known f g at_host units same = same_from known f g at_host 0 units (λ k below. same k (omega (arith, below)))
