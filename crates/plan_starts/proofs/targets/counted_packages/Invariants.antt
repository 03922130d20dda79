use Rattle.std.proofs.Common.{◌≡◌, ℕ, map, take}
use Rattle.std.specs.Prelude.{Some}
use Rattle.std.specs.BTreeSet.{contains}
use Rattle.std.specs.Ordering.{nat_cmp}
use Rattle.cargo_workspaces.specs.Views.{declaration_text}
use Rattle.plan_starts.specs.Targets.{counts_for}
use Rattle.plan_starts.specs.TargetViews.{rules_text}
use Rattle.plan_starts.proofs.targets.counted_packages.Given as goal

abbrev pub invariant-loop-declaration : goal.invariant-loop-declaration
invariant-loop-declaration g l =
    let r = rules_text g.P.Platform.holds l.rules in
    (q : ℕ) → contains nat_cmp l.packages q ≡ counts_for r l.ix l.name (map declaration_text (take l.declaration-index l.declarations)) (Some q)
