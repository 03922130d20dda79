use Rattle.std.proofs.Common.{◌≡◌, ◌++◌, ℕ, map, drop, get_or, false}
use Rattle.cargo_workspaces.specs.Views.{package_text}
use Rattle.plan_names.specs.Names as spec
use Rattle.plan_names.specs.Views.{named_text}
use Rattle.plan_names.proofs.parts.parts_at.Given as goal

abbrev pub invariant-loop-ix : goal.invariant-loop-ix
invariant-loop-ix l =
    let test = λ (k : ℕ). get_or l.list k false in
    spec.parts_from test l.name 0 (map package_text l.packages) ≡ map named_text l.named.items ++ spec.parts_from test l.name l.ix (map package_text (drop l.ix l.packages))
