use Rattle.std.proofs.Common.{map, take}
use Rattle.cargo_plans.specs.plan_units.UnitViews.{unit_text}
use Rattle.feats_duplicates.specs.inner.Dependents.{HasDependents}
use Rattle.feats_duplicates.proofs.dependents.dependents_by_package.Given as goal

abbrev pub invariant-loop-link : goal.invariant-loop-link
invariant-loop-link l = HasDependents l.groups l.count (map unit_text l.units) (take l.link-index l.links)
