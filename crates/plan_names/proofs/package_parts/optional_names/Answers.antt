use Rattle.std.proofs.Common.{refl}
use Rattle.plan_words.specs.Patterns.{fits}
use Rattle.plan_names.proofs.Once.{names_more}
use Rattle.plan_names.proofs.package_parts.optional_names.Goals as goal

pub loop-declaration-preserved : goal.loop-declaration-preserved
loop-declaration-preserved c =
    let same = c.deref-declaration-items.ensures.value in
    let within = rw same at c.loop-declaration-test.true in
    let at = rw same at c.declaration-item.is in
    names_more (fits c.args.pattern.now) c.args.«package».now.declarations.items c.loop-declaration.declaration-index c.declaration-item.result _ _ _ _ within at refl refl c.loop-declaration.invariant c.in_ok-push_optional.ensures
