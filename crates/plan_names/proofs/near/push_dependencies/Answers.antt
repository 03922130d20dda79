use Rattle.std.proofs.Common.{◌∙◌, ap, Option, false}
use Rattle.std.specs.Option.{option_map_or}
use Rattle.cargo_workspaces.specs.Workspaces.{PackageText}
use Rattle.plan_names.specs.Names.{dependency}
use Rattle.plan_names.specs.Suggestions.{has_part, is_part}
use Rattle.plan_names.proofs.Lists.{optional_at}
use Rattle.plan_names.proofs.near.push_dependencies.Goals as goal

pub loop-declaration-preserved : goal.loop-declaration-preserved
loop-declaration-preserved c packages is h =
    let d = c.declaration-item.result in
    let same = c.deref-declaration-items.ensures.value in
    let within = rw same at c.loop-declaration-test.true in
    let at = rw same at c.declaration-item.is in
    c.in_ok-push_optional.ensures (is_part packages) (c.loop-declaration.invariant packages is h)
    (λ on. ap (λ (p : Option PackageText). option_map_or (has_part (dependency d.name.now)) p false) is ∙ optional_at c.args.«package».now.declarations.items c.loop-declaration.declaration-index d within at on)
