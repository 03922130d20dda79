use Rattle.std.proofs.Common.{◌≡◌, ◌++◌, ℕ, [], drop, if◌then◌else◌, map}
use Rattle.build_summaries.specs.Views as summaries
use Rattle.cargo_plans.specs.plan_starts.Lists.{joined_from}
use Rattle.cargo_plans.specs.plan_units.Units.{UnitText}
use Rattle.cargo_plans.specs.plan_units.UnitViews.{unit_text}
use Rattle.digraphs.specs.Bits.{has}
use Rattle.feats_summary.specs.Packages.{is_in, package_at, packages_by}
use Rattle.feats_summary.specs.inner.Views.{known_text}
use Rattle.feats_summary.proofs.packages.packages_by.Given as goal

abbrev pub invariant-loop-number : goal.invariant-loop-number
invariant-loop-number l =
    packages_by (known_text l.known) (has l.direct) l.at_host (map unit_text l.units)
    ≡ map summaries.package_text l.packages.items
    ++ joined_from (λ (k : ℕ) (u : UnitText). if is_in l.at_host u.place then package_at (known_text l.known) (has l.direct k) u else []) l.number (map unit_text (drop l.number l.units))
