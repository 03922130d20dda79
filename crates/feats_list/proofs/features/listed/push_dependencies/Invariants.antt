use Rattle.std.proofs.Common.{◌≡◌, ◌++◌, map, drop}
use Rattle.cargo_plans.specs.built_parts.BuiltViews.{is_built_in}
use Rattle.cargo_workspaces.specs.Views.{texts}
use Rattle.feats_list.specs.features.Lists.{listed_dependencies}
use Rattle.feats_list.specs.features.inner.Listed.{listed_text}
use Rattle.feats_list.proofs.features.listed.push_dependencies.Given as goal

abbrev pub invariant-loop-name : goal.invariant-loop-name
invariant-loop-name l =
    map listed_text l.initial.list.items ++ listed_dependencies (is_built_in l.parts) l.ix (texts l.names)
    ≡ map listed_text l.list.items ++ listed_dependencies (is_built_in l.parts) l.ix (texts (drop l.name-index l.names))
