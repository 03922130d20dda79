use Rattle.std.proofs.Common.{◌≡◌, ◌++◌, map, drop}
use Rattle.std.specs.Prelude.{nat_eq}
use Rattle.std.specs.List.{filter_map}
use Rattle.cargo_workspaces.specs.Views.{texts}
use Rattle.plan_words.specs.FeatureWords as spec
use Rattle.plan_words.specs.inner.Views.{addressed_text}
use Rattle.plan_words.proofs.feature_words.items_to.Given as goal

abbrev pub invariant-loop-item : goal.invariant-loop-item
invariant-loop-item l =
    let own = λ (a : spec.Addressed). spec.value_if (nat_eq a.to l.ix) a.item in
    filter_map own (map addressed_text l.items) ≡ texts l.own.items ++ filter_map own (map addressed_text (drop l.item-index l.items))
