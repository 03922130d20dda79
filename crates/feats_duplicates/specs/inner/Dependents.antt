-- The packages whose units depend on a package's, by that package.
use Rattle.std.specs.Prelude.{◌≡◌, ℕ, List, ◌&&◌, nat_eq, nat_lt}
use Rattle.std.specs.BTreeMap.{BTreeMap}
use Rattle.std.specs.Global.{Vec}
use Rattle.std.specs.List.{list_any}
use Rattle.cargo_plans.specs.plan_units.Units.{UnitText}
use Rattle.feats_duplicates.specs.Dependents.{depends_on}
use Rattle.feats_duplicates.specs.inner.Groups.{group_at}

-- The group of each package has its dependents of the first `count` packages, in any order.
abbrev pub HasDependents : BTreeMap ℕ (Vec ℕ) → ℕ → List UnitText → List (ℕ × ℕ) → Type 0
HasDependents groups count units links = (p q : ℕ) → list_any (nat_eq q) (group_at groups p) ≡ (nat_lt q count && depends_on units links p q)
