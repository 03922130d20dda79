use Rattle.std.proofs.Common.{◌≡◌, ◌++◌, map, drop}
use Rattle.cargo_workspaces.specs.Views.{texts}
use Rattle.plan_names.specs.Names as spec
use Rattle.plan_names.specs.Views.{named_text}
use Rattle.plan_names.proofs.package_parts.push_dependencies.Given as goal

abbrev pub invariant-loop-name : goal.invariant-loop-name
invariant-loop-name l =
    map named_text l.initial.named.items ++ map (spec.of_package l.ix) (map spec.dependency (texts l.names))
    ≡ map named_text l.named.items ++ map (spec.of_package l.ix) (map spec.dependency (texts (drop l.name-index l.names)))
